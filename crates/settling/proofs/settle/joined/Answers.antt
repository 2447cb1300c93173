-- `settling::settle::joined` meets its contract: the numbers passed are joined.
-- Assumes nothing.
use Rattle.std.proofs.Common.{arith}
use Rattle.settling.proofs.SureLaws.{joined_none, joined_next, joined_whole}
use Rattle.settling.proofs.settle.joined.Goals as goal

pub loop-number-init : goal.loop-number-init
loop-number-init c = joined_none _

pub loop-number-preserved : goal.loop-number-preserved
loop-number-preserved c = joined_next _ _ c.loop-number.invariant

pub returns : goal.returns
returns c = joined_whole _ c.loop-number.invariant (omega arith)
