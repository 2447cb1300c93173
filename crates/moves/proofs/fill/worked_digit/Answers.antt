-- `moves::fill::worked_digit` meets its contract: one walk works every square, the other those that stir.
-- Assumes nothing.
use Rattle.moves.proofs.WetLaws.{works_all, works_wet}
use Rattle.moves.proofs.fill.worked_digit.Goals as goal

pub returns-in-All : goal.returns-in-All
returns-in-All c =
    let a = c.args in
    works_all a.depths.now a.lasts.now a.added.now a.square c.in-All.is

pub returns-in-Wet : goal.returns-in-Wet
returns-in-Wet c =
    let a = c.args in
    works_wet a.depths.now a.lasts.now a.added.now a.square c.in-Wet.is c.stirring.ensures
