use mathlib.Core.Path.{◌≡◌}
use mathlib.Core.Bool.{false}
use Prim.Native.Nat.{◌%◌}
use Rattle.reckon.specs.Lists.{filled}
use Rattle.holes.specs.Rounds.{bed_after}
use Rattle.holes.proofs.rounds.one_round.Given as goal

abbrev pub invariant-loop-square : goal.invariant-loop-square
invariant-loop-square l = (l.column ≡ l.square % l.shape.columns) × (l.beds ≡ filled l.square (λ i. false) (bed_after l.shape l.marks l.before) l.initial.beds)
