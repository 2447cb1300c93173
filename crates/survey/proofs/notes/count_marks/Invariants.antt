use Rattle.survey.proofs.NoteLaws.{Marking}
use Rattle.survey.proofs.notes.count_marks.Given as goal

abbrev pub invariant-loop-square : goal.invariant-loop-square
invariant-loop-square l = Marking l.text l.at l.columns l.next l.square
