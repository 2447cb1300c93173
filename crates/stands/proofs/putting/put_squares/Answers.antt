-- `stands::putting::put_squares` meets its contract: the lines so far stand at the place.
-- Assumes nothing.
use native.Mathlib.Omega.{arith}
use Rattle.grid.specs.Squares.{squares}
use Rattle.ledger.specs.Runs.{plan}
use Rattle.stands.specs.Texts.{square_text, squares_text}
use Rattle.stands.specs.Inner.Putting.{most_square}
use Rattle.stands.proofs.PutLaws.{lines_none, lines_more, lines_all}
use Rattle.stands.proofs.putting.put_squares.Goals as goal

pub loop-square-init : goal.loop-square-init
loop-square-init c = lines_none _ _ _ _

pub loop-square-preserved : goal.loop-square-preserved
loop-square-preserved c =
    let f = square_text (plan c.args.shape c.args.marks.now) c.args.depths.now c.args.lasts.now in
    lines_more most_square f c.args.at c.args.out.now (squares c.args.shape) c.requires.shape_in_bounds c.loop-square.invariant
    (omega (arith, c.squares_of-squares.ensures)) c.put_square-next.ensures

pub returns : goal.returns
unfolding squares_text
returns c =
    let f = square_text (plan c.args.shape c.args.marks.now) c.args.depths.now c.args.lasts.now in
    lines_all most_square f c.args.at c.args.out.now (squares c.args.shape) c.requires.shape_in_bounds c.loop-square.invariant (omega (arith, c.squares_of-squares.ensures))
