use mathlib.Core.Path.{◌≡◌}
use mathlib.Core.Bool.{true, ◌||◌}
use lib.ListN.{get_or}
use Rattle.reckon.specs.Tests.{all_below}
use Rattle.grid.specs.Marks.{closed}
use Rattle.checks.specs.Refusals.{square_ground_fine}
use Rattle.checks.proofs.refusals.grounds_fine.Given as goal

abbrev pub invariant-loop-square : goal.invariant-loop-square
invariant-loop-square l = all_below l.square (λ i. closed l.marks i || square_ground_fine (get_or l.beds i 0) (get_or l.roughness i 0) (get_or l.rates i 0)) ≡ true
