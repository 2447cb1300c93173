use Rattle.stands.proofs.SquareLaws.{Passing}
use Rattle.stands.proofs.squares.pass_squares.Given as goal

abbrev pub invariant-loop-square : goal.invariant-loop-square
invariant-loop-square l = Passing l.text l.at l.marks l.next l.lines l.square
