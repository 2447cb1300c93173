-- `settling::reach::chosen` meets its contract.
-- Assumes nothing.
use Rattle.std.proofs.Common.{sym}
use Rattle.reckon.proofs.TestLaws.{pick_true, pick_false}
use Rattle.settling.proofs.reach.chosen.Goals as goal

pub returns-then-closed : goal.returns-then-closed
returns-then-closed c = sym (pick_true _ _ c.if-closed.true)

pub returns : goal.returns
returns c = sym (pick_false _ _ c.if-closed.false)
