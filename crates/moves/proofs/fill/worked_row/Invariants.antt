use Rattle.grid.proofs.MaskLaws.{Built}
use Rattle.moves.specs.Inner.Fill.{works_on}
use Rattle.moves.proofs.fill.worked_row.Given as goal

abbrev pub invariant-loop-ahead : goal.invariant-loop-ahead
invariant-loop-ahead l = Built (works_on l.walk l.depths l.lasts l.added) l.first l.columns l.ahead l.mask

abbrev pub decreases-loop-ahead : goal.decreases-loop-ahead
decreases-loop-ahead l = l.ahead
