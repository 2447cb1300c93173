use Prim.Native.Nat.{◌-◌}
use Rattle.holes.proofs.FillLaws.{Going}
use Rattle.holes.proofs.rounds.fill_rounds.Given as goal

abbrev pub invariant-loop-turn : goal.invariant-loop-turn
invariant-loop-turn l = Going l.shape l.marks l.initial.beds l.initial.turns (l.turn - 1) l.beds l.turns
