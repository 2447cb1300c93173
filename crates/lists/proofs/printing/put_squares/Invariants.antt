use Rattle.reckon.specs.Lists.{joined}
use Rattle.ledger.specs.Runs.{plan}
use Rattle.text.specs.Writing.{Wrote}
use Rattle.lists.specs.Tally.{square_text}
use Rattle.lists.proofs.printing.put_squares.Given as goal

abbrev pub invariant-loop-square : goal.invariant-loop-square
invariant-loop-square l = Wrote (joined l.square (square_text (plan l.shape l.marks) l.counts l.deepest l.places)) 0 l.initial.out l.out l.next
