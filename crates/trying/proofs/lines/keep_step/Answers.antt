use mathlib.Core.Path.{ap, ap₂, ◌∙◌}
use Prim.Native.Nat.{ℕ}
use native.Mathlib.Omega.{arith}
use Rattle.trials.proofs.RingLaws.{after_below}
use Rattle.hatches.specs.declared.log.Log.{Log}
use Rattle.trying.specs.Given.{account_with}
use Rattle.trying.specs.Lines.{tried}
use Rattle.trying.specs.declared.given.Account.{Account}
use Rattle.trying.proofs.lines.keep_step.Goals as goal

-- src/lines.rt:167:18
pub account_with-requires : goal.account_with-requires
account_with-requires c = (
  omega (
    arith,
    c.slot_after-slot.ensures,
    after_below c.args.slots c.args.log.run.newest (omega (arith, c.requires.newest_lt_slots.0)),
    c.requires.newest_lt_slots.1,
  ),
  c.requires.steps_bound.1,
)

-- src/lines.rt:148:1
pub returns : goal.returns
returns c = (
  ap₂ (λ (l : Log) (b : Account). tried 0 l b) c.further.ensures
      (c.account_with.ensures
      ∙ ap (λ (k : ℕ). account_with c.args.account k c.args.more) c.slot_after-slot.ensures),
  c.keep_made.ensures,
)
