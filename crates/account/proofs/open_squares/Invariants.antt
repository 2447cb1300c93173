use mathlib.Core.Path.{◌≡◌}
use Prim.Native.Nat.{◌≤◌}
use Rattle.reckon.specs.Tests.{pick}
use Rattle.reckon.specs.Lists.{sum_below}
use Rattle.grid.specs.Marks.{closed}
use Rattle.account.proofs.open_squares.Given as goal

abbrev pub invariant-loop-square : goal.invariant-loop-square
invariant-loop-square l = (l.count ≤ l.square) × (l.count ≡ sum_below l.square (λ i. pick (closed l.marks i) 0 1))
