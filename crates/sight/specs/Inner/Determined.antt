-- The contract of each layer function of this crate leaves one outcome.
-- Assumes nothing.
use Rattle.std.specs.Prelude.{List, ℕ}
use Rattle.reckon.specs.Outcomes.{One}
use Rattle.sight.specs.WetRows.{OnesIn}

pub record SightDetermined : Type 0 where
  pub ones_in : (rows : List ℕ) → One (OnesIn rows)
