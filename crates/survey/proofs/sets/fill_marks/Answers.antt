-- `survey::sets::fill_marks` meets its contract: the squares passed hold their marks, and the position is that of the next line.
-- Assumes nothing.
use native.Mathlib.Omega.{arith}
use Rattle.survey.proofs.SetLaws.{line_first, line_more, line_mark, filling_none, filling_more}
use Rattle.survey.proofs.sets.fill_marks.Goals as goal

pub loop-square-init : goal.loop-square-init
loop-square-init c = (line_first _ _ c.requires.0, filling_none _ _)

pub loop-square-preserved : goal.loop-square-preserved
loop-square-preserved c =
    let l = c.loop-square.invariant in (
      line_more _ _ l.0 c.next_line-line.ensures,
      filling_more _ _ l.1 (omega (arith, c.squares_of-squares.ensures, c.requires.2)) (line_mark _ _ l.0 _ c.mark_at.ensures),
    )
