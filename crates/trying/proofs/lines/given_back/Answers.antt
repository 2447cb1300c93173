use mathlib.Core.Path.{sym, ap}
use Prim.Native.Nat.{◌-◌}
use native.Mathlib.Omega.{arith}
use Rattle.trials.proofs.RingLaws.{ago_below}
use Rattle.trying.specs.Lines.{given_back}
use Rattle.trying.proofs.LineLaws.{given_some}
use Rattle.trying.proofs.lines.given_back.Goals as goal

-- src/lines.rt:237:9
pub returns-then-steps-eq0 : goal.returns-then-steps-eq0
unfolding given_back
returns-then-steps-eq0 c = sym (ap (given_back c.args.account c.args.slots c.args.newest) c.if-steps-eq0.true)

-- src/lines.rt:239:27
pub slot_ago-requires : goal.slot_ago-requires
slot_ago-requires c = c.requires.0 (omega (arith, c.if-steps-eq0.false))

-- src/lines.rt:239:5
pub account_back-requires : goal.account_back-requires
account_back-requires c = omega (arith, c.slot_ago.ensures, ago_below c.args.slots (c.args.steps - 1) c.args.newest (c.requires.0 (omega (arith, c.if-steps-eq0.false))), c.requires.1)

-- src/lines.rt:232:1
pub returns : goal.returns
returns c = given_some c.args.account c.args.slots c.args.newest (omega (arith, c.if-steps-eq0.false)) c.slot_ago.ensures c.account_back.ensures
