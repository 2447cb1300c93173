use Rattle.grid.proofs.MaskLaws.{Built}
use Rattle.moves.specs.Inner.Fill.{works_on}
use Rattle.moves.proofs.fill.worked_below.Given as goal

abbrev pub invariant-loop-ahead : goal.invariant-loop-ahead
invariant-loop-ahead l = Built (works_on l.walk l.depths l.lasts l.added) l.row.first l.columns l.ahead l.mask
