-- Document 02, #112, "How many steps can an evening take": what is told before a run holds of the run's own count.
-- Assumes nothing.
use Rattle.std.specs.Prelude.{◌≡◌, ℕ, ◌-◌, ◌*◌, ◌/◌, ◌%◌, ◌≤◌}
use Rattle.rule.specs.Bounds.{steps_over, most_steps, least_steps}
use Rattle.rule.specs.declared.rules.Rules.{Rules}
use Rattle.ledger.specs.Runs.{Plan, World}
use Rattle.checks.specs.Given.{Given}
use Rattle.flood.specs.Run.{run_to}
use Rattle.checks.specs.Bounds.{bounds_of}
use Rattle.checks.specs.declared.bounds.StepBounds.{StepBounds}
use Rattle.checks.specs.declared.bounds.Bounds.TheVariants.{Bounded}

-- "For a run from a clock that is a multiple of U to an end E not before it"; an end that is no multiple of U is refused, with no step made
pub record CountedSteps (p : Plan) (g : Given) (end : ℕ) (w : World) : Type 0 where
  -- "the steps counted are at most (E − clock)/U times the least whole number not below U/shortest"
  pub at_most : w.run.clock % g.lie.rules.update ≡ 0 → w.run.clock ≤ end → (run_to p g end w).steps ≤ most_steps g.lie.rules w.run.clock end
  -- "and at least the same with longest. A refused run is excepted from the lower figure"
  pub at_least : w.run.clock % g.lie.rules.update ≡ 0 → w.run.clock ≤ end → (run_to p g end w).number ≡ 0 →
      least_steps g.lie.rules w.run.clock end ≤ (run_to p g end w).steps
  -- and so where `step_bounds` has told both figures
  pub told : (b : StepBounds) → bounds_of g.lie.rules w.run.clock end ≡ Bounded b →
      ((run_to p g end w).steps ≤ b.most) × ((run_to p g end w).number ≡ 0 → b.least ≤ (run_to p g end w).steps)

pub record StepCount : Type 0 where
  pub counted : (p : Plan) (g : Given) (end : ℕ) (w : World) → CountedSteps p g end w
  -- "the least whole number not below U/shortest": it is not below, and no lesser one is
  pub not_below : (time length : ℕ) → 1 ≤ length → time ≤ steps_over time length * length
  pub no_lesser : (time length n : ℕ) → 1 ≤ length → time ≤ n * length → steps_over time length ≤ n
  -- "(E − clock)/U times the least whole number not below U/shortest", and "the same with longest"
  pub most_is : (r : Rules) (clock end : ℕ) → most_steps r clock end ≡ (end - clock) / r.update * steps_over r.update r.shortest
  pub least_is : (r : Rules) (clock end : ℕ) → least_steps r clock end ≡ (end - clock) / r.update * steps_over r.update r.longest
  -- both are 0 where the end is the clock
  pub none : (r : Rules) (clock : ℕ) → (most_steps r clock clock ≡ 0) × (least_steps r clock clock ≡ 0)
