-- The contract of each layer function of this crate leaves one outcome.
-- Assumes nothing.
use Rattle.std.specs.Prelude.{List, ℕ}
use Rattle.reckon.specs.Outcomes.{One}
use Rattle.ledger.specs.Runs.{Plan, World, world}
use Rattle.ledger.specs.declared.runs.Answer.{Answer}
use Rattle.settling.specs.declared.settle.Settled.{Settled}
use Rattle.checks.specs.Given.{Given}
use Rattle.flood.specs.Step.{MakesStep, Steps}
use Rattle.flood.specs.Inner.Run.{RunsKept}
use Rattle.flood.specs.declared.run.Ran.{Ran}

-- `step_on` is lent working rooms too, and what is left in these is not promised
pub record FloodDetermined : Type 1 where
  pub step_on : (p : Plan) (g : Given) (w : World) →
      One {Out = Settled × (List ℕ × (List ℕ × List ℕ))} (λ o. MakesStep p g w o.0.refused (world o.1.0 o.1.1.0 o.1.1.1 o.0.run))
  pub step_checked : (p : Plan) (g : Given) (w : World) →
      One {Out = Answer × (List ℕ × (List ℕ × List ℕ))} (λ o. Steps p g w o.0 o.1.0 o.1.1.0 o.1.1.1)
  -- where each step leaves one thing that is kept
  pub run_kept : {K : Type 0} (keeps : Plan → List ℕ → ℕ → ℕ → K → K → Type 0) (p : Plan) →
      ((depths : List ℕ) (before clock : ℕ) (k : K) → One {Out = K} (λ k'. keeps p depths before clock k k')) →
      (g : Given) (end : ℕ) (w : World) (k : K) →
      One {Out = (Ran × (List ℕ × (List ℕ × List ℕ))) × K} (λ o. RunsKept keeps p g end w k o.0.0 o.0.1.0 o.0.1.1.0 o.0.1.1.1 o.1)
