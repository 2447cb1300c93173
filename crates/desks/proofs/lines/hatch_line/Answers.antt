use Rattle.desks.proofs.OtherLaws.{plainly-told}
use Rattle.desks.proofs.lines.hatch_line.Goals as goal

-- src/lines.rt:275:1
pub returns : goal.returns
returns c = λ d l k b. plainly-told d l k b c.name-tried.ensures c.tried_line.ensures
