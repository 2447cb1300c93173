-- `hatches::rates::slot_ago` meets its contract: after so many turns the slot is so many places back.
-- Assumes nothing.
use mathlib.Core.Path.{sym, ap, ◌∙◌}
use native.Mathlib.Numerals.{add-one}
use Rattle.trials.specs.Ring.{slot_ago, slot_before}
use Rattle.trials.proofs.RingLaws.{ago_none, before_below}
use Rattle.hatches.proofs.RatesLaws.{ago_step}
use Rattle.hatches.proofs.rates.slot_ago.Goals as goal

pub loop-init : goal.loop-init
loop-init c = (sym (ago_none _ _), c.requires)

pub loop-preserved : goal.loop-preserved
loop-preserved c =
    let inv = c.loop.invariant in (
      c.slot_before-slot.ensures
          ∙ (ap (slot_before c.args.slots) inv.0 ∙ (sym (ago_step c.args.slots c.args.newest c.loop.counter) ∙ ap (slot_ago c.args.slots c.args.newest) (sym (add-one c.loop.counter)))),
      rw c.slot_before-slot.ensures (before_below _ _ inv.1),
    )
