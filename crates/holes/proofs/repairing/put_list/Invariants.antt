use mathlib.Core.Path.{◌≡◌}
use Rattle.reckon.specs.Lists.{joined}
use Rattle.text.specs.Writing.{Wrote}
use Rattle.holes.specs.Holes.{start_of}
use Rattle.holes.specs.Inner.Steps.{listed_line}
use Rattle.holes.proofs.repairing.put_list.Given as goal

abbrev pub invariant-loop-square : goal.invariant-loop-square
invariant-loop-square l = (l.start ≡ start_of l.text l.square) × Wrote (joined l.square (listed_line l.text l.beds l.turns)) l.at l.initial.out l.out l.next
