use mathlib.Core.Path.{◌≡◌}
use Prim.Native.Nat.{◌*◌, ◌%◌, ◌≤◌}
use Rattle.reckon.specs.Lists.{joined}
use Rattle.rule.specs.Length.{least_from}
use Rattle.ledger.specs.Runs.{plan}
use Rattle.moves.specs.Inner.Fill.{firm}
use Rattle.moves.specs.Moves.{square_candidates}
use Rattle.moves.proofs.length.least_of_all.Given as goal

abbrev pub invariant-loop-square : goal.invariant-loop-square
invariant-loop-square l = (l.square ≤ l.way.shape.rows * l.way.shape.columns)
    × (l.column ≡ l.square % l.way.shape.columns)
    × (l.best ≡ least_from l.way.rules.longest (joined l.square (square_candidates (plan l.way.shape l.marks) (firm l.way.rules l.beds l.roughness) l.depths)))
