-- Every contract leaves one outcome: each is an equation for all that a call gives.
-- Assumes nothing.
use mathlib.Core.Path.{◌≡◌, sym, ap, subst, ◌∙◌}
use mathlib.Core.List.{List}
use Prim.Native.Nat.{ℕ, zero, suc}
use Rattle.reckon.specs.Outcomes.{One}
use Rattle.ledger.specs.Runs.{Plan, World, world}
use Rattle.ledger.specs.declared.runs.Answer.{Answer}
use Rattle.settling.specs.declared.settle.Settled.{Settled}
use Rattle.checks.specs.Given.{Given}
use Rattle.flood.specs.Step.{MakesStep, Steps}
use Rattle.flood.specs.Run.{Ended, steps_on}
use Rattle.flood.specs.Inner.Run.{KeptOver, RunsKept}
use Rattle.flood.specs.declared.run.Ran.{Ran}
use Rattle.flood.specs.Inner.Determined.{FloodDetermined}

-- two answers that tell a number, and two worlds, each equal to one
abbrev Four : Type 0
Four = Settled × (List ℕ × (List ℕ × List ℕ))

abbrev world_in : Four → World
world_in o = world o.1.0 o.1.1.0 o.1.1.1 o.0.run

same_four : {a b : Four} → a.0.refused ≡ b.0.refused → world_in a ≡ world_in b → a ≡ b
same_four n w = λ j. (record { refused = n j; run = (w j).run }, ((w j).depths, ((w j).lasts, (w j).records)))

step_on_one : {p : Plan} {g : Given} {w : World} → One {Out = Four} (λ o. MakesStep p g w o.0.refused (world_in o))
step_on_one a b x y = same_four (x.number ∙ sym y.number) (x.world_is ∙ sym y.world_is)

step_checked_one :
    {p : Plan} {g : Given} {w : World} →
    One {Out = Answer × (List ℕ × (List ℕ × List ℕ))} (λ o. Steps p g w o.0 o.1.0 o.1.1.0 o.1.1.1)
step_checked_one a b x y =
    λ j. (
      (x.answer ∙ sym y.answer) j,
      ((x.depths_are ∙ sym y.depths_are) j, ((x.lasts_are ∙ sym y.lasts_are) j, (x.records_are ∙ sym y.records_are) j)),
    )

module _
    {K : Type 0} (keeps : Plan → List ℕ → ℕ → ℕ → K → K → Type 0) (p : Plan) (one : (depths : List ℕ) (before clock : ℕ) (k : K) → One {Out = K} (λ k'. keeps p depths before clock k k'))
    (g : Given) where
  over_one : (w : World) (n : ℕ) (k : K) → One {Out = K} (λ k'. KeptOver keeps p g w n k k')
  unfolding KeptOver
  over_one w zero k a b x y = x ∙ sym y
  over_one w (suc n) k a b x y =
      let same = over_one w n k x.0 y.0 x.1 y.1 in
      one _ _ _ y.0 a b (subst (λ (m : K). keeps p (steps_on p g (suc n) w).depths (steps_on p g n w).run.clock (steps_on p g (suc n) w).run.clock m a) same x.2.kept) y.2.kept

  run_kept_one :
      (end : ℕ) (w : World) (k : K) →
      One {Out = (Ran × (List ℕ × (List ℕ × List ℕ))) × K} (λ o. RunsKept keeps p g end w k o.0.0 o.0.1.0 o.0.1.1.0 o.0.1.1.1 o.1)
  run_kept_one end w k a b x y =
      let e = x.ends ∙ sym y.ends in
      let kept = over_one w b.0.0.steps k a.1 b.1 (subst (λ (n : ℕ). KeptOver keeps p g w n k a.1) (ap (λ (z : Ended). z.steps) e) x.kept) y.kept in
      λ j. (
        (record { refused = (e j).number; steps = (e j).steps; run = (e j).world.run }, ((e j).world.depths, ((e j).world.lasts, (e j).world.records))),
        kept j,
      )

pub flood_determined : FloodDetermined
flood_determined =
    record {
      step_on = λ p g w. step_on_one;
      step_checked = λ p g w. step_checked_one;
      run_kept = λ keeps p one g end w k. run_kept_one keeps p one g end w k;
    }
