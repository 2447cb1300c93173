-- `survey::texts::put_marks` meets its contract: the lines so far stand at the place.
-- Assumes nothing.
use native.Mathlib.Omega.{arith}
use Rattle.text.proofs.JoinedLaws.{none_written, line_fits, line_written}
use Rattle.survey.proofs.texts.put_marks.Goals as goal

pub loop-square-init : goal.loop-square-init
loop-square-init c = none_written _ _ _

pub put_mark_line-next-requires : goal.put_mark_line-next-requires
put_mark_line-next-requires c = (
  c.requires.shape_in_range.0.columns_low,
  c.requires.shape_in_range.2 c.loop-square.square (omega (arith, c.requires.shape_in_range.1)),
  line_fits _ _ _ _ c.requires.i_in_bounds _ c.loop-square.invariant (omega (arith, c.requires.shape_in_range.1)),
)

pub loop-square-preserved : goal.loop-square-preserved
loop-square-preserved c =
    line_written _ _ _ _ c.requires.i_in_bounds _ c.loop-square.invariant (omega (arith, c.requires.shape_in_range.1))
    c.put_mark_line-next.ensures
