use mathlib.Core.Path.{◌≡◌}
use Prim.Native.Nat.{◌+◌, ◌-◌}
use Rattle.grid.specs.Inner.Visits.{Visits}
use Rattle.ledger.specs.Runs.{plan}
use Rattle.moves.specs.Inner.Fill.{firm, least_below}
use Rattle.moves.proofs.length.least_in_row.Given as goal

abbrev pub invariant-loop-column : goal.invariant-loop-column
invariant-loop-column l = Visits l.wet l.columns (λ k. l.best ≡ least_below (plan l.way.shape l.marks) (firm l.way.rules l.beds l.roughness) l.depths (l.first + k)) l.column

abbrev pub decreases-loop-column : goal.decreases-loop-column
decreases-loop-column l = l.columns - l.column
