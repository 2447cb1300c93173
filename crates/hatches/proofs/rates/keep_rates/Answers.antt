-- `hatches::rates::keep_rates` meets its contract: what is still to be kept, from where the loop has come to, is the whole.
-- Assumes nothing.
use Rattle.hatches.proofs.RatesLaws.{keeping_next, keeping-last, keeping-within}
use Rattle.hatches.proofs.rates.keep_rates.Goals as goal

pub keep_one-requires : goal.keep_one-requires
keep_one-requires c = keeping-within c.loop.invariant c.requires.2 c.slot_after-slot.ensures

pub loop-preserved : goal.loop-preserved
loop-preserved c =
    keeping_next c.loop.invariant c.loop-test.true c.requires.0 c.requires.2 c.slot_after-slot.ensures
    c.keep_one.ensures

pub returns : goal.returns
returns c = keeping-last c.loop.invariant c.loop-test.false
