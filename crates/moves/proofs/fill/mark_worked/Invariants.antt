use Rattle.grid.specs.Inner.Rows.{AtRow}
use Rattle.grid.proofs.MaskLaws.{Rowed}
use Rattle.moves.specs.Inner.Fill.{works_on}
use Rattle.moves.proofs.fill.mark_worked.Given as goal

abbrev pub invariant-loop-row : goal.invariant-loop-row
invariant-loop-row l = AtRow l.rows l.columns l.row l.first × Rowed (works_on l.walk l.depths l.lasts l.added) l.columns l.initial.worked l.worked l.row
