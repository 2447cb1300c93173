use Rattle.desks.proofs.AnswerLaws.{ending-told}
use Rattle.desks.proofs.lines.tried_line.Goals as goal

-- src/lines.rt:56:1
pub returns : goal.returns
returns c = ending-told _ _ _ _ c.no_series.ensures c.put_ending-length.ensures c.desk_with.ensures
