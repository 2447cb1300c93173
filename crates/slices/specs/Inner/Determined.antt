-- The contract of the layer function of this crate leaves one outcome.
-- Assumes nothing.
use Rattle.std.specs.Prelude.{List, ℕ}
use Rattle.reckon.specs.Outcomes.{One}
use Rattle.flood.specs.declared.run.Ran.{Ran}
use Rattle.sheet.specs.Sheet.{Rooms}
use Rattle.programs.specs.Program.{RunsSheet}
use Rattle.sheet.specs.declared.reading.Heading.{Heading}

-- a sheet's heading and the rooms that hold it stand for what a run is lent
pub record SlicesDetermined : Type 0 where
  pub run_slices : (h : Heading) (held : Rooms) →
      One {Out = Ran × (List ℕ × (List ℕ × List ℕ))} (λ o. RunsSheet h held o.0 o.1.0 o.1.1.0 o.1.1.1)
