-- `adding::added::all_closed` meets its contract: every square passed so far was closed.
-- Assumes nothing.
use mathlib.Core.Path.{sym, ◌∙◌}
use native.Mathlib.Omega.{arith}
use Rattle.reckon.proofs.TestLaws.{all_none, all_more, all_fails}
use Rattle.adding.proofs.added.all_closed.Goals as goal

pub loop-square-init : goal.loop-square-init
loop-square-init c = all_none _

pub returns-then-not-is_closed : goal.returns-then-not-is_closed
returns-then-not-is_closed c = sym (all_fails _ _ c.loop-square.square (omega arith) (sym c.is_closed.ensures ∙ c.if-not-is_closed.true))

pub loop-square-preserved : goal.loop-square-preserved
loop-square-preserved c = all_more _ _ c.loop-square.invariant (sym c.is_closed.ensures ∙ c.if-not-is_closed.false)
