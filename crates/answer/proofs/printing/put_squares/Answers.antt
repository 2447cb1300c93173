-- `answer::printing::put_squares` meets its contract: the lines so far stand at the place.
-- Assumes nothing.
use native.Mathlib.Omega.{arith}
use Rattle.answer.specs.Printed.{cells_text}
use Rattle.answer.proofs.PrintLaws.{none_written, line_fits, line_written, lines_whole}
use Rattle.answer.proofs.printing.put_squares.Goals as goal

pub loop-square-init : goal.loop-square-init
loop-square-init c = none_written _ _ _

pub put_square-next-requires-clause-square_in_bounds : goal.put_square-next-requires-clause-square_in_bounds
unfolding cells_text
put_square-next-requires-clause-square_in_bounds c =
    line_fits _ _ _ _ c.requires.depths_in_bounds _ c.loop-square.invariant (omega (arith, c.squares_of-squares.ensures))

pub loop-square-preserved : goal.loop-square-preserved
unfolding cells_text
loop-square-preserved c =
    line_written _ _ _ _ c.requires.depths_in_bounds _ c.loop-square.invariant (omega (arith, c.squares_of-squares.ensures))
    c.put_square-next.ensures

pub returns : goal.returns
unfolding cells_text
returns c = lines_whole _ (omega (arith, c.squares_of-squares.ensures)) c.loop-square.invariant
