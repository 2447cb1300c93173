-- Every layer function of this crate leaves one outcome.
-- Assumes nothing.
use Rattle.std.specs.Prelude.{◌≡◌, List, ℕ, Option}
use Rattle.reckon.specs.Outcomes.{One}
use Rattle.trials.specs.Ring.{slot_ago}
use Rattle.grid.specs.declared.squares.Shape.{Shape}
use Rattle.rule.specs.declared.rules.Rules.{Rules}
use Rattle.ledger.specs.Runs.{Plan}
use Rattle.ledger.specs.declared.runs.Run.{Run}
use Rattle.hatches.specs.Lines.{LineRead}
use Rattle.hatches.specs.Log.{KeptRecords, Opened, is_named, standing_fine}
use Rattle.hatches.specs.Inner.Rates.{TableFilled, RatesStored, RatesRestored}
use Rattle.hatches.specs.Inner.Judged.{EntryJudged, HatchLineJudged, HatchDrawJudged, TableFits}
use Rattle.hatches.specs.declared.lines.Entry.{Entry}
use Rattle.hatches.specs.declared.log.Hatches.{Hatches}
use Rattle.hatches.specs.declared.log.Log.{Log}

pub record HatchesDetermined : Type 0 where
  pub log-line : (text : List ℕ) (at : ℕ) → One (LineRead text at)
  pub kept-records : (s : Shape) → One (KeptRecords s)
  pub open_log : (run : Run) → One (Opened run)
  pub is-named : (hs : Hatches) (n : ℕ) → One (λ r. r ≡ is_named hs n)
  pub fill_table : (inflow : List ℕ) (hs : Hatches) (litres old : List ℕ) → One {Out = ℕ × List ℕ} (λ o. TableFilled inflow hs litres old o.1 o.0)
  pub keep_made : (slots steps newest : ℕ) (litres old : List ℕ) → One (RatesStored slots steps newest litres old)
  pub slot-ago : (slots newest places : ℕ) → One (λ r. r ≡ slot_ago slots newest places)
  pub rates-back : (slots : ℕ) (began : List ℕ) (log : Log) (steps : ℕ) → One (RatesRestored slots began log steps)
  pub entry-number : (p : Plan) (r : Rules) (inflow depths records began : List ℕ) (log : Log) (entry : Option Entry) →
      One (EntryJudged p r inflow depths records began log entry)
  pub hatch_line_fine : (log : Log) (n : ℕ) → One (HatchLineJudged log n)
  pub hatch_draw_fine : (p : Plan) (inflow : List ℕ) (log : Log) (row column : ℕ) → One (HatchDrawJudged p inflow log row column)
  pub table_fits : (numbers : ℕ) (hs : Hatches) (more : ℕ) → One (TableFits numbers hs more)
  pub standing-fine : (log : Log) → One (λ r. r ≡ standing_fine log)
