use mathlib.Core.Path.{◌≡◌}
use mathlib.Core.Bool.{not}
use Rattle.reckon.specs.Lists.{filled}
use Rattle.holes.specs.Rounds.{no_bed}
use Rattle.holes.specs.Holes.{start_of, is_hole}
use Rattle.holes.proofs.repairing.mark_holes.Given as goal

abbrev pub invariant-loop-square : goal.invariant-loop-square
invariant-loop-square l = (l.start ≡ start_of l.text l.square) × (l.beds ≡ filled l.square (λ i. not (is_hole l.text i)) (λ i. no_bed) l.initial.beds)
