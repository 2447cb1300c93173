-- `peaks::raising::rises` meets its contract: the first test that decides.
-- Assumes nothing.
use mathlib.Core.Path.{sym, ◌∙◌}
use Rattle.reckon.proofs.TestLaws.{pick_true, pick_false}
use Rattle.peaks.specs.Inner.Raised.{rises_at}
use Rattle.peaks.proofs.raising.rises.Goals as goal

pub returns-then-is_closed : goal.returns-then-is_closed
unfolding rises_at
returns-then-is_closed c = sym (pick_true _ _ (sym c.is_closed.ensures ∙ c.if-is_closed.true))

pub returns-then-first : goal.returns-then-first
unfolding rises_at
returns-then-first c = sym (pick_false _ _ (sym c.is_closed.ensures ∙ c.if-is_closed.false) ∙ pick_true _ _ c.if-first.true)

pub returns : goal.returns
unfolding rises_at
returns c = c.above.ensures ∙ sym (pick_false _ _ (sym c.is_closed.ensures ∙ c.if-is_closed.false) ∙ pick_false _ _ c.if-first.false)
