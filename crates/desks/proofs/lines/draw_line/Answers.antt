use Rattle.desks.proofs.OtherLaws.{plainly-told}
use Rattle.desks.proofs.lines.draw_line.Goals as goal

-- src/lines.rt:305:1
pub returns : goal.returns
returns c = λ d l k b. plainly-told d l k b c.draw-tried.ensures c.tried_line.ensures
