-- `lists::merging::is_given` meets its contract: the first sheet gives it, a later one only where it is deeper.
-- Assumes nothing.
use mathlib.Core.Path.{sym}
use borrow.Author.Tests.{not-true, not-false}
use Rattle.reckon.proofs.TestLaws.{pick_true, pick_false}
use Rattle.lists.proofs.merging.is_given.Goals as goal

pub returns-then-not-merging : goal.returns-then-not-merging
returns-then-not-merging c = sym (pick_false _ _ (not-true _ c.if-not-merging.true))

pub returns : goal.returns
returns c = sym (pick_true _ _ (not-false _ c.if-not-merging.false))
