-- The contract of the layer function of this crate leaves one outcome.
-- Assumes nothing.
use Rattle.std.specs.Prelude.{List, ℕ}
use Rattle.reckon.specs.Outcomes.{One}
use Rattle.flood.specs.declared.run.Ran.{Ran}
use Rattle.sheet.specs.Sheet.{Rooms}
use Rattle.sheet.specs.declared.reading.Heading.{Heading}
use Rattle.hours.specs.Inner.Wet.{RunsSheetWet}

-- a sheet's heading and the rooms that hold it stand for what a run is lent
pub record HoursDetermined : Type 0 where
  pub run_sheet_wet : (h : Heading) (held : Rooms) →
      One {Out = (Ran × (List ℕ × (List ℕ × List ℕ))) × List ℕ} (λ o. RunsSheetWet h held o.0.0 o.0.1.0 o.0.1.1.0 o.0.1.1.1 o.1)
