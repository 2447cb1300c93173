use mathlib.Core.Path.{◌≡◌}
use mathlib.Core.Bool.{true}
use Rattle.reckon.specs.Tests.{all_below}
use Rattle.grid.specs.Marks.{closed}
use Rattle.adding.proofs.added.all_closed.Given as goal

abbrev pub invariant-loop-square : goal.invariant-loop-square
invariant-loop-square l = all_below l.square (closed l.marks) ≡ true
