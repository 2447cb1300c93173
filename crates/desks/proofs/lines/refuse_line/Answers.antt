use mathlib.Core.Path.{refl}
use Rattle.desks.proofs.AnswerLaws.{ending-told}
use Rattle.desks.proofs.lines.refuse_line.Goals as goal

-- src/lines.rt:47:1
pub returns : goal.returns
returns c = ending-told _ _ _ _ refl c.put_ending-length.ensures c.desk_still.ensures
