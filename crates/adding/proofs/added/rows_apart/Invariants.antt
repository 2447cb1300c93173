use mathlib.Core.Path.{◌≡◌}
use mathlib.Core.Bool.{true}
use Rattle.reckon.specs.Tests.{all_below}
use Rattle.adding.specs.Inner.Added.{row_alone}
use Rattle.adding.proofs.added.rows_apart.Given as goal

abbrev pub invariant-loop-j : goal.invariant-loop-j
invariant-loop-j l = all_below l.j (row_alone l.inflow) ≡ true
