use mathlib.Core.Path.{◌≡◌}
use Rattle.reckon.specs.Lists.{filled}
use Rattle.grid.specs.Marks.{closed}
use Rattle.checks.proofs.fresh.clear_lasts.Given as goal

abbrev pub invariant-loop-square : goal.invariant-loop-square
invariant-loop-square l = l.lasts ≡ filled l.square (closed l.marks) (λ i. 0) l.initial.lasts
