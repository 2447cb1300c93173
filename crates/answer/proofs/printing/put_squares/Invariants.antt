use Rattle.reckon.specs.Lists.{joined}
use Rattle.ledger.specs.Runs.{plan}
use Rattle.text.specs.Writing.{Wrote}
use Rattle.answer.specs.Printed.{cell_text}
use Rattle.answer.proofs.printing.put_squares.Given as goal

abbrev pub invariant-loop-square : goal.invariant-loop-square
invariant-loop-square l = Wrote (joined l.square (cell_text (plan l.shape l.marks) l.depths)) l.at l.initial.out l.out l.next
