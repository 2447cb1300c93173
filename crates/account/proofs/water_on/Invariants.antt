use mathlib.Core.Path.{◌≡◌}
use Prim.Native.Nat.{◌*◌, ◌^◌, ◌≤◌}
use lib.ListN.{get_or}
use Rattle.reckon.specs.Tests.{pick}
use Rattle.reckon.specs.Lists.{sum_below}
use Rattle.grid.specs.Marks.{closed}
use Rattle.account.proofs.water_on.Given as goal

abbrev pub invariant-loop-square : goal.invariant-loop-square
invariant-loop-square l = (l.sum ≤ l.square * 2 ^ 32) × (l.sum ≡ sum_below l.square (λ i. pick (closed l.marks i) 0 (get_or l.depths i 0)))
