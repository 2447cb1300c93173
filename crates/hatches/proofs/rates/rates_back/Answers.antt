-- `hatches::rates::rates_back` meets its contract: none taken back changes nothing.
-- Assumes nothing.
use mathlib.Core.Path.{sym, ap}
use Prim.Native.Nat.{◌-◌}
use native.Mathlib.Omega.{arith}
use Rattle.trials.proofs.RingLaws.{ago_below}
use Rattle.hatches.specs.Log.{rates_back}
use Rattle.hatches.proofs.RatesLaws.{back_some}
use Rattle.hatches.proofs.rates.rates_back.Goals as goal

pub returns-then-steps-eq0 : goal.returns-then-steps-eq0
unfolding rates_back
returns-then-steps-eq0 c = sym (ap (rates_back c.args.slots c.args.began.now c.args.log) c.if-steps-eq0.true)

pub rates_in-requires : goal.rates_in-requires
rates_in-requires c = omega (arith, c.slot_ago.ensures, ago_below c.args.slots (c.args.steps - 1) c.args.log.run.newest (c.requires.0 (omega (arith, c.if-steps-eq0.false))), c.requires.1)

pub returns : goal.returns
returns c = back_some c.args.slots c.args.began.now c.args.log (omega (arith, c.if-steps-eq0.false)) c.slot_ago.ensures c.rates_in.ensures
