use mathlib.Core.Path.{◌≡◌}
use lib.Dec.{eqb}
use lib.ListN.{get_or}
use Rattle.reckon.specs.Lists.{filled}
use Rattle.holes.proofs.rounds.note_round.Given as goal

abbrev pub invariant-loop-square : goal.invariant-loop-square
invariant-loop-square l = (l.turns ≡ filled l.square (λ i. eqb (get_or l.beds i 0) (get_or l.before i 0)) (λ i. l.turn) l.initial.turns)
