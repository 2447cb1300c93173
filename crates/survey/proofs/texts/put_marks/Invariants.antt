use lib.ListN.{get_or}
use Rattle.reckon.specs.Lists.{joined}
use Rattle.text.specs.Writing.{Wrote}
use Rattle.survey.specs.Sets.{mark_line}
use Rattle.survey.proofs.texts.put_marks.Given as goal

abbrev pub invariant-loop-square : goal.invariant-loop-square
invariant-loop-square l = Wrote (joined l.square (λ i. mark_line l.shape.columns i (get_or l.marks i 0))) l.at l.initial.out l.out l.next
