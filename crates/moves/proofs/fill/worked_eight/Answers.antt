-- `moves::fill::worked_eight` meets its contract: one walk works all eight, the other those that stir.
-- Assumes nothing.
use Rattle.moves.proofs.WetLaws.{eight_all, eight_wet}
use Rattle.moves.proofs.fill.worked_eight.Goals as goal

pub returns-in-All : goal.returns-in-All
returns-in-All c =
    let a = c.args in
    eight_all a.depths.now a.lasts.now a.added.now a.at c.in-All.is

pub returns-in-Wet : goal.returns-in-Wet
returns-in-Wet c =
    let a = c.args in
    eight_wet a.depths.now a.lasts.now a.added.now a.at c.in-Wet.is c.stirring_eight.ensures
