-- `trying::lines::made_step` meets its contract: what the table gave the step is kept with it.
-- Assumes nothing.
use mathlib.Core.Path.{ap, ◌∙◌}
use Prim.Native.Nat.{ℕ, ◌+◌}
use native.Mathlib.Omega.{arith}
use Rattle.trials.specs.Ring.{slot_after}
use Rattle.hatches.specs.Log.{log_with}
use Rattle.trying.specs.Given.{account_with}
use Rattle.trying.specs.Lines.{tried}
use Rattle.account.proofs.GivenLaws.{tables_most}
use Rattle.trying.proofs.lines.made_step.Goals as goal

pub keep_step-requires : goal.keep_step-requires
keep_step-requires c = record {
  newest_lt_slots = c.requires.newest_lt_slots;
  steps_bound = (
    c.requires.steps_bound.0,
    omega (
      arith,
      c.tables_give-more.ensures,
      tables_most _ _ _ _ c.requires.between,
      c.requires.steps_bound.1,
    ),
  );
}

pub returns : goal.returns
returns c =
    let a = c.args in (
      c.keep_step.ensures.0
          ∙ ap
          (λ (m : ℕ). tried 0 (log_with a.log a.run (a.log.steps + 1) a.log.litres) (account_with a.account (slot_after a.slots a.log.run.newest) m))
          c.tables_give-more.ensures,
      c.keep_step.ensures.1,
    )
