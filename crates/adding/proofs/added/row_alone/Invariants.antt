use mathlib.Core.Path.{◌≡◌}
use mathlib.Core.Bool.{true, not}
use Rattle.reckon.specs.Tests.{all_below}
use Rattle.reckon.specs.Tables.{on_square}
use Rattle.adding.proofs.added.row_alone.Given as goal

abbrev pub invariant-loop-k : goal.invariant-loop-k
invariant-loop-k l = all_below l.k (λ i. not (on_square l.inflow l.row l.column i)) ≡ true
