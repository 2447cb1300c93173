-- `stands::squares::pass_squares` meets its contract: every square passed so far has its line.
-- Assumes nothing.
use native.Mathlib.Omega.{arith}
use Rattle.stands.proofs.SquareLaws.{passing_none, passing_more, passing_stop, passing_all, line_few}
use Rattle.stands.proofs.squares.pass_squares.Goals as goal

pub loop-square-init : goal.loop-square-init
loop-square-init c = passing_none _ _ _

pub returns-in_default : goal.returns-in_default
returns-in_default c = passing_stop _ _ _ c.loop-square.invariant c.in_default.ensures _ (omega (arith, c.squares_of-squares.ensures))

pub overflow_add-lines : goal.overflow_add-lines
overflow_add-lines c =
    omega (
      arith,
      line_few _ _ _ c.loop-square.invariant c.in-Some.ensures,
      c.loop-square.invariant.few,
      c.squares_of-squares.ensures,
      c.requires.0.few,
    )

pub loop-square-preserved : goal.loop-square-preserved
loop-square-preserved c = passing_more _ _ _ c.loop-square.invariant c.in-Some.ensures

pub returns : goal.returns
returns c = passing_all _ _ _ c.loop-square.invariant _ _ (omega arith) c.squares_of-squares.ensures
