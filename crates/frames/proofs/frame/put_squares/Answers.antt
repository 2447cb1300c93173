-- `frames::frame::put_squares` meets its contract: the fields so far stand at the place.
-- Assumes nothing.
use native.Mathlib.Omega.{arith}
use Rattle.text.proofs.JoinedLaws.{none_written, line_fits, line_written, lines_whole}
use Rattle.frames.proofs.frame.put_squares.Goals as goal

pub loop-column-init : goal.loop-column-init
loop-column-init c = none_written _ _ _

pub put_square-next-requires : goal.put_square-next-requires
put_square-next-requires c = (
  omega (arith, c.requires.columns_in_bounds.0),
  omega (arith, c.requires.columns_in_bounds.1),
  line_fits _ _ _ _ c.requires.c_in_bounds _ c.loop-column.invariant (omega arith),
)

pub loop-column-preserved : goal.loop-column-preserved
loop-column-preserved c = line_written _ _ _ _ c.requires.c_in_bounds _ c.loop-column.invariant (omega arith) c.put_square-next.ensures

pub returns : goal.returns
returns c = lines_whole _ (omega arith) c.loop-column.invariant
