-- The figures told before a run hold of its count: `run-counted` follows it step by step.
-- Assumes nothing.
use mathlib.Core.Path.{◌≡◌, refl}
use Prim.Native.Nat.{ℕ, ◌-◌, ◌*◌, ◌/◌, ◌≤◌}
use native.Mathlib.Nat.{sub_self, zero-div, zero-mul}
use Rattle.rule.specs.Bounds.{most_steps, least_steps}
use Rattle.rule.specs.declared.rules.Rules.{Rules}
use Rattle.rule.proofs.SpanLaws.{over_reached, over_least}
use Rattle.ledger.specs.Runs.{Plan, World}
use Rattle.checks.specs.Given.{Given}
use Rattle.flood.specs.Run.{run_to}
use Rattle.checks.specs.Bounds.{bounds_of, figures}
use Rattle.checks.specs.declared.bounds.StepBounds.{StepBounds}
use Rattle.checks.specs.declared.bounds.Bounds.TheVariants.{Bounded}
use Rattle.checks.proofs.BoundsLaws.{bounded_says, whole_spans}
use Rattle.flood.proofs.StepCountLaws.{run-counted}
use Rattle.demands.specs.StepCount.{CountedSteps, StepCount}

module _ (p : Plan) (g : Given) (end : ℕ) (w : World) where
  told-holds : (b : StepBounds) → bounds_of g.lie.rules w.run.clock end ≡ Bounded b →
      ((run_to p g end w).steps ≤ b.most) × ((run_to p g end w).number ≡ 0 → b.least ≤ (run_to p g end w).steps)
  unfolding figures
  told-holds b e =
      let says = bounded_says g.lie.rules w.run.clock end e in
      let at = whole_spans g.lie.rules w.run.clock end says.0 in
      let c = run-counted p g end w at.0 at.1 in
      rw says.1 (c.at_most, λ z. c.at_least z)

  counted_steps : CountedSteps p g end w
  counted_steps =
      record {
        at_most = λ c h. (run-counted p g end w c h).at_most;
        at_least = λ c h z. (run-counted p g end w c h).at_least z;
        told = told-holds;
      }

no_spans : (r : Rules) (clock steps : ℕ) → (clock - clock) / r.update * steps ≡ 0
no_spans r clock steps = rw (sub_self clock, zero-div r.update, zero-mul steps)

pub step_count : StepCount
unfolding most_steps least_steps
step_count =
    record {
      counted = counted_steps;
      not_below = λ time length h. over_reached time h;
      no_lesser = λ time length n h k. over_least time h n k;
      most_is = λ r clock end. refl;
      least_is = λ r clock end. refl;
      none = λ r clock. (no_spans r clock _, no_spans r clock _);
    }
