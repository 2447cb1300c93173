use Rattle.ledger.specs.Runs.{plan}
use Rattle.stands.specs.Texts.{square_text}
use Rattle.stands.specs.Inner.Putting.{most_square}
use Rattle.stands.proofs.PutLaws.{Lines}
use Rattle.stands.proofs.putting.put_squares.Given as goal

abbrev pub invariant-loop-square : goal.invariant-loop-square
invariant-loop-square l = Lines most_square (square_text (plan l.shape l.marks) l.depths l.lasts) l.at l.initial.out l.out l.next l.square
