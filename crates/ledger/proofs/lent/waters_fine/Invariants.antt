use mathlib.Core.Path.{◌≡◌}
use mathlib.Core.Bool.{true, ◌||◌}
use lib.ListN.{get_or}
use Rattle.reckon.specs.Tests.{all_below}
use Rattle.reckon.specs.Ranges.{water_fine}
use Rattle.grid.specs.Marks.{closed}
use Rattle.ledger.proofs.lent.waters_fine.Given as goal

abbrev pub invariant-loop-square : goal.invariant-loop-square
invariant-loop-square l = (all_below l.square (λ i. closed l.marks i || water_fine (get_or l.depths i 0) (get_or l.lasts i 0)) ≡ true)
