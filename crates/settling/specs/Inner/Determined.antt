-- The contract of each layer function of this crate leaves one outcome.
-- Assumes nothing.
use Rattle.std.specs.Prelude.{ℕ, List}
use Rattle.reckon.specs.Outcomes.{One}
use Rattle.ledger.specs.Runs.{Plan, World, world}
use Rattle.settling.specs.Inner.Settle.{SettlesTo, SurelyJudged, next_record}
use Rattle.ledger.specs.declared.runs.Run.{Run}
use Rattle.settling.specs.declared.settle.Settled.{Settled}

-- `settle` is lent a working room too, `room`, and what is left in that is not promised
pub record SettlingDetermined : Type 0 where
  pub settle : (p : Plan) (held : ℕ) (w : World) →
      One {Out = Settled × (List ℕ × List ℕ)} (λ o. SettlesTo p (next_record p w) held w o.0.refused (world o.1.0 o.1.1 w.records o.0.run))
  pub surely-settles : (u : Run) (depths room : List ℕ) → One (SurelyJudged u depths room)
