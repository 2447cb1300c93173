-- The contract of each layer function of this crate leaves one outcome.
-- Assumes nothing.
use Rattle.std.specs.Prelude.{List, ℕ}
use Rattle.reckon.specs.Outcomes.{One}
use Rattle.ledger.specs.Runs.{Plan}
use Rattle.ledger.specs.declared.runs.Run.{Run}
use Rattle.answer.specs.Printed.{PutRefused, PutTotals, PutWorld}

pub record AnswerDetermined : Type 0 where
  pub put_refused : (number line at : ℕ) (room : List ℕ) → One {Out = ℕ × List ℕ} (λ o. PutRefused number line at room o.1 o.0)
  pub put_totals : (u : Run) (steps at : ℕ) (room : List ℕ) → One {Out = ℕ × List ℕ} (λ o. PutTotals u steps at room o.1 o.0)
  pub put_world : (p : Plan) (depths : List ℕ) (u : Run) (steps at : ℕ) (room : List ℕ) →
      One {Out = ℕ × List ℕ} (λ o. PutWorld p depths u steps at room o.1 o.0)
