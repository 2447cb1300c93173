-- `survey::sets::closed_same` meets its contract: both are closed, or neither.
-- Assumes nothing.
use mathlib.Core.Path.{sym}
use Rattle.reckon.proofs.TestLaws.{pick_true, pick_false}
use Rattle.survey.specs.Inner.Notes.{closed_same}
use Rattle.survey.proofs.sets.closed_same.Goals as goal

pub returns-then-closed : goal.returns-then-closed
unfolding closed_same
returns-then-closed c = sym (pick_true _ _ c.if-closed.true)

pub returns : goal.returns
unfolding closed_same
returns c = sym (pick_false _ _ c.if-closed.false)
