use mathlib.Core.Path.{◌≡◌}
use mathlib.Core.Bool.{true}
use Rattle.reckon.specs.Tests.{all_below}
use Rattle.grid.specs.Marks.{inflow_square_fine}
use Rattle.grid.proofs.marks.inflow_squares_fine.Given as goal

abbrev pub invariant-loop-j : goal.invariant-loop-j
invariant-loop-j l = all_below l.j (inflow_square_fine l.shape l.marks l.rows) ≡ true
