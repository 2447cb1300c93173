-- The contract of each layer function of this crate leaves one outcome.
-- Assumes nothing.
use Rattle.std.specs.Prelude.{Bool, List, ℕ}
use Rattle.reckon.specs.Outcomes.{One}
use Rattle.flood.specs.declared.run.Ran.{Ran}
use Rattle.sheet.specs.Sheet.{Rooms}
use Rattle.sheet.specs.declared.reading.Heading.{Heading}
use Rattle.peaks.specs.Inner.Raised.{Raises}
use Rattle.peaks.specs.Inner.Sheets.{RunsSheetPeaks}

-- what the rooms of a sheet hold stands for what its run is lent
pub record PeaksDetermined : Type 0 where
  pub raise : (first : Bool) (clock : ℕ) (marks depths peaks clocks : List ℕ) →
      One {Out = List ℕ × List ℕ} (λ o. Raises first clock marks depths peaks clocks o.0 o.1)
  pub run_sheet_peaks : (h : Heading) (held : Rooms) (depths peaks clocks : List ℕ) →
      One {Out = Ran × (List ℕ × (List ℕ × List ℕ))} (λ o. RunsSheetPeaks h held depths peaks clocks o.0 o.1.0 o.1.1.0 o.1.1.1)
