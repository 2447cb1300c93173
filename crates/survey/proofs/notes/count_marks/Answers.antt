-- `survey::notes::count_marks` meets its contract: each line passed has a mark, and the position is that of the next.
-- Assumes nothing.
use native.Mathlib.Omega.{arith}
use Rattle.sheet.proofs.RoomLaws.{passed_none}
use Rattle.survey.proofs.NoteLaws.{marking_more, marks_stop, marks_all}
use Rattle.survey.proofs.notes.count_marks.Goals as goal

pub loop-square-init : goal.loop-square-init
loop-square-init c = record { lines = passed_none _ _ _; inside = c.requires.0 }

pub returns-then-mark_at-eq-NO_MARK : goal.returns-then-mark_at-eq-NO_MARK
returns-then-mark_at-eq-NO_MARK c =
    marks_stop _ _ c.args.shape c.loop-square.invariant c.loop-square-test.true c.mark_at.ensures c.if-mark_at-eq-NO_MARK.true

pub loop-square-preserved : goal.loop-square-preserved
loop-square-preserved c =
    marking_more _ _ _ c.loop-square.invariant c.mark_at.ensures c.if-mark_at-eq-NO_MARK.false c.next_line-next.ensures

pub returns : goal.returns
returns c = marks_all _ _ c.args.shape c.loop-square.invariant (omega (arith, c.loop-square-test.false))
