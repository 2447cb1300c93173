use mathlib.Core.Path.{◌≡◌}
use Rattle.reckon.specs.Lists.{filled}
use Rattle.grid.specs.Marks.{closed}
use Rattle.stands.specs.Laying.{start_from, depth_from, last_from}
use Rattle.stands.proofs.squares.store_squares.Given as goal

abbrev pub invariant-loop-square : goal.invariant-loop-square
invariant-loop-square l = (l.next ≡ start_from l.text l.at l.marks l.square)
    × (l.depths ≡ filled l.square (closed l.marks) (depth_from l.text l.at l.marks) l.initial.depths)
    × (l.lasts ≡ filled l.square (closed l.marks) (last_from l.text l.at l.marks) l.initial.lasts)
