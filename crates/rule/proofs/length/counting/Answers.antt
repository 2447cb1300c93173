-- `rule::length::counting` meets its contract.
-- Assumes nothing.
use mathlib.Core.Path.{sym}
use borrow.Author.Tests.{lt-ltb, le-ltb}
use Rattle.reckon.proofs.TestLaws.{pick_true, pick_false}
use Rattle.rule.specs.Length.{counts}
use Rattle.rule.proofs.length.counting.Goals as goal

pub returns-then-rules-drop : goal.returns-then-rules-drop
unfolding counts
returns-then-rules-drop c = sym (pick_true _ _ (lt-ltb _ _ c.if-rules-drop.true))

pub returns : goal.returns
unfolding counts
returns c = sym (pick_false _ _ (le-ltb _ _ c.if-rules-drop.false))
