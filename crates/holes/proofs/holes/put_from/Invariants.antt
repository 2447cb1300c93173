use mathlib.Core.Path.{◌≡◌}
use Rattle.reckon.specs.Lists.{joined}
use Rattle.text.specs.Writing.{Wrote}
use Rattle.holes.specs.Holes.{start_of}
use Rattle.holes.specs.Inner.Steps.{line_put}
use Rattle.holes.proofs.holes.put_from.Given as goal

abbrev pub invariant-loop-square : goal.invariant-loop-square
invariant-loop-square l = (l.start ≡ start_of l.text l.square) × Wrote (joined l.square (line_put l.text l.beds)) l.at l.initial.out l.out l.next
