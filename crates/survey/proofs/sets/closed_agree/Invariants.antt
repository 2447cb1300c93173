use Rattle.survey.proofs.SetLaws.{Agreeing}
use Rattle.survey.proofs.sets.closed_agree.Given as goal

abbrev pub invariant-loop-square : goal.invariant-loop-square
invariant-loop-square l = Agreeing l.note l.cells_at l.scale l.grid l.at l.columns l.line l.next l.square
