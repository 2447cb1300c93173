-- The contract of each layer function of this crate leaves one outcome.
-- Assumes nothing.
use Rattle.std.specs.Prelude.{◌≡◌, List, ℕ}
use Rattle.reckon.specs.Outcomes.{One}
use Rattle.rule.specs.declared.rules.Rules.{Rules}
use Rattle.ledger.specs.declared.runs.Run.{Run}
use Rattle.exports.specs.Numbers.{rules_from, run_numbers, run_value_from}

pub record ExportsDetermined : Type 0 where
  pub rules-from : (numbers : List ℕ) → One {Out = Rules} (λ r. r ≡ rules_from numbers)
  pub run-from : (numbers : List ℕ) → One {Out = Run} (λ r. r ≡ run_value_from numbers)
  pub put_run : (run : Run) → One {Out = List ℕ} (λ l. l ≡ run_numbers run)
