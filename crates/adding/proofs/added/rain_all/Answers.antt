-- `adding::added::rain_all` meets its contract: rain that a square can hold stands everywhere; more than that is fine where all squares are closed.
-- Assumes nothing.
use Rattle.adding.proofs.AddedLaws.{rain_too_deep, rain_stored}
use Rattle.adding.proofs.added.rain_all.Goals as goal

pub returns-then-rain : goal.returns-then-rain
returns-then-rain c = rain_too_deep c.if-rain.true c.all_closed.ensures

pub returns : goal.returns
returns c = rain_stored c.requires c.if-rain.false (c.fill.ensures.after (λ y e. e))
