-- `moves::fill::stirring` meets its contract: the three numbers joined are 0 where each of them is.
-- Assumes nothing.
use Rattle.moves.proofs.WetLaws.{stirring_none, stirring_some}
use Rattle.moves.proofs.fill.stirring.Goals as goal

pub returns-then-depths-square-eq0 : goal.returns-then-depths-square-eq0
returns-then-depths-square-eq0 c =
    let a = c.args in
    stirring_none a.depths.now a.lasts.now a.added.now a.square a.bit c.if-depths-square-eq0.true

pub returns : goal.returns
returns c =
    let a = c.args in
    stirring_some a.depths.now a.lasts.now a.added.now a.square a.bit c.if-depths-square-eq0.false
