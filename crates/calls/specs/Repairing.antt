-- What the caller has that repairs a sheet, in document 02's words (#111).
-- Assumes nothing.
use Rattle.std.specs.Prelude.{◌≡◌, List, ℕ, take, drop}
use Rattle.holes.specs.Repaired.{repair_text}
use Rattle.demands.specs.Holes.{RepairRight}

pub record AfterRepair (s old new : List ℕ) (long : ℕ) : Type 0 where
  -- what is printed, at the room's start; the rest of the room stays
  pub printed : take long new ≡ repair_text s
  pub rest_stays : drop long new ≡ drop long old
  -- and that it is what was asked
  pub right : RepairRight s
