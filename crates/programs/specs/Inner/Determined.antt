-- The contract of each layer function of this crate leaves one outcome.
-- Assumes nothing.
use Rattle.std.specs.Prelude.{List, ℕ}
use Rattle.reckon.specs.Outcomes.{One}
use Rattle.ledger.specs.Runs.{Plan}
use Rattle.flood.specs.declared.run.Ran.{Ran}
use Rattle.sheet.specs.Sheet.{Rooms}
use Rattle.programs.specs.Program.{RunsSheet, PutRan, Prints, text_printed}
use Rattle.programs.specs.Reading.{ReadsWithin}
use Rattle.sheet.specs.declared.reading.Heading.{Heading}
use Rattle.sheet.specs.declared.reading.Sheet.{Sheet}

-- a sheet's heading and the rooms that hold it stand for what a run is lent
pub record ProgramsDetermined : Type 0 where
  pub read_within : (most : ℕ) (text : List ℕ) (before : Rooms) → One {Out = Sheet × Rooms} (λ o. ReadsWithin most text before o.0 o.1)
  pub run_sheet : (h : Heading) (held : Rooms) →
      One {Out = Ran × (List ℕ × (List ℕ × List ℕ))} (λ o. RunsSheet h held o.0 o.1.0 o.1.1.0 o.1.1.1)
  pub put_ran : (p : Plan) (depths : List ℕ) (ran : Ran) (at : ℕ) (room : List ℕ) →
      One {Out = ℕ × List ℕ} (λ o. PutRan p depths ran at room o.1 o.0)
  pub printed_of : (printed : Heading → Rooms → List ℕ) (text old : List ℕ) →
      One {Out = ℕ × List ℕ} (λ o. Prints (text_printed printed text) old o.1 o.0)
