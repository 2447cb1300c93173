-- `frames::arrows::put_arrows` meets its contract: the lines so far stand at the place.
-- Assumes nothing.
use native.Mathlib.Omega.{arith}
use Rattle.text.proofs.JoinedLaws.{none_written, line_fits, line_written, lines_whole}
use Rattle.frames.specs.Arrows.{arrows_text}
use Rattle.frames.proofs.arrows.put_arrows.Goals as goal

pub loop-square-init : goal.loop-square-init
loop-square-init c = none_written _ _ _

pub put_arrow-next-requires-clause-square_in_bounds : goal.put_arrow-next-requires-clause-square_in_bounds
unfolding arrows_text
put_arrow-next-requires-clause-square_in_bounds c =
    line_fits _ _ _ _ c.requires.north_in_bounds _ c.loop-square.invariant (omega (arith, c.squares_of-squares.ensures))

pub loop-square-preserved : goal.loop-square-preserved
unfolding arrows_text
loop-square-preserved c =
    line_written _ _ _ _ c.requires.north_in_bounds _ c.loop-square.invariant (omega (arith, c.squares_of-squares.ensures))
    c.put_arrow-next.ensures

pub returns : goal.returns
unfolding arrows_text
returns c = lines_whole _ (omega (arith, c.squares_of-squares.ensures)) c.loop-square.invariant
