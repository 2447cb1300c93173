use Rattle.survey.specs.Inner.Notes.{mark_from}
use Rattle.survey.proofs.SetLaws.{AtLine, Filling}
use Rattle.survey.proofs.sets.fill_marks.Given as goal

abbrev pub invariant-loop-square : goal.invariant-loop-square
invariant-loop-square l = AtLine l.note l.at l.line l.square × Filling (mark_from l.note l.at l.columns) l.initial.marks l.square l.marks
