use mathlib.Core.Path.{◌≡◌}
use Rattle.grid.specs.Inner.Rows.{AtRow}
use Rattle.ledger.specs.Runs.{plan}
use Rattle.moves.specs.Inner.Fill.{firm, least_below}
use Rattle.moves.proofs.length.least_of_wet.Given as goal

abbrev pub invariant-loop-row : goal.invariant-loop-row
invariant-loop-row l = AtRow l.rows l.columns l.row l.first × (l.best ≡ least_below (plan l.way.shape l.marks) (firm l.way.rules l.beds l.roughness) l.depths l.first)
