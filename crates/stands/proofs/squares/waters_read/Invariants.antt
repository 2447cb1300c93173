use mathlib.Core.Path.{◌≡◌}
use mathlib.Core.Bool.{true}
use Rattle.reckon.specs.Ranges.{water_fine}
use Rattle.reckon.specs.Tests.{all_below}
use Rattle.stands.specs.Laying.{start_from, depth_from, last_from}
use Rattle.stands.proofs.squares.waters_read.Given as goal

abbrev pub invariant-loop-square : goal.invariant-loop-square
invariant-loop-square l = (l.next ≡ start_from l.text l.at l.marks l.square)
    × (all_below l.square (λ i. water_fine (depth_from l.text l.at l.marks i) (last_from l.text l.at l.marks i)) ≡ true)
