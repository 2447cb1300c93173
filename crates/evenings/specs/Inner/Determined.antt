-- Every layer function of this crate leaves one outcome.
-- Assumes nothing.
use Rattle.std.specs.Prelude.{◌≡◌, List, ℕ}
use Rattle.reckon.specs.Outcomes.{One}
use Rattle.ledger.specs.Runs.{Plan}
use Rattle.ledger.specs.declared.runs.Run.{Run}
use Rattle.hatches.specs.Log.{Evening, evening, hatch_named, log_with}
use Rattle.hatches.specs.declared.log.Log.{Log}
use Rattle.evenings.specs.Program.{Cleared, no_night}
use Rattle.evenings.specs.Inner.Backs.{BackTaken}
use Rattle.evenings.specs.declared.taking.EntryTaken.{EntryTaken}

pub record EveningsDetermined : Type 0 where
  pub name_hatch : (log : Log) (n row column : ℕ) → One (λ r. r ≡ hatch_named log n row column)
  pub further : (log : Log) (run : Run) (steps : ℕ) (litres : List ℕ) → One (λ r. r ≡ log_with log run steps litres)
  pub back_line : (p : Plan) (e : Evening) (count : ℕ) →
      One {Out = EntryTaken × (List ℕ × List ℕ)}
      (λ o. BackTaken p e count o.0.number (evening o.1.0 o.1.1 e.records e.began o.0.log))
  pub no-night : (long : ℕ) → One (λ r. r ≡ no_night long)
  pub clear : (old : List ℕ) → One (Cleared old)
