-- `lists::merging::count_before` meets its contract: before the first sheet it is 0.
-- Assumes nothing.
use mathlib.Core.Path.{sym}
use Rattle.reckon.proofs.TestLaws.{pick_true, pick_false}
use Rattle.lists.proofs.merging.count_before.Goals as goal

pub returns-then-merging : goal.returns-then-merging
returns-then-merging c = sym (pick_true _ _ c.if-merging.true)

pub returns : goal.returns
returns c = sym (pick_false _ _ c.if-merging.false)
