-- `rule::weighing::half` meets its contract: a side without a drop has no share.
-- Assumes nothing.
use mathlib.Core.Path.{sym}
use borrow.Author.Tests.{eq-eqb, ne_eqb}
use Rattle.reckon.proofs.TestLaws.{pick_true, pick_false}
use Rattle.rule.specs.Inner.Totals.{half_of}
use Rattle.rule.proofs.weighing.half.Goals as goal

pub returns-then-drop-eq0 : goal.returns-then-drop-eq0
unfolding half_of
returns-then-drop-eq0 c = sym (pick_true _ _ (eq-eqb _ _ c.if-drop-eq0.true))

pub returns : goal.returns
unfolding half_of
returns c = sym (pick_false _ _ (ne_eqb _ _ c.if-drop-eq0.false))
