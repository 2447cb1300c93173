use mathlib.Core.Path.{◌≡◌}
use mathlib.Core.Bool.{true}
use lib.Dec.{leb}
use lib.ListN.{length}
use Rattle.reckon.specs.Tests.{all_below}
use Rattle.reckon.specs.Lists.{filled}
use Rattle.reckon.specs.Ranges.{most_depth}
use Rattle.grid.specs.Squares.{squares}
use Rattle.adding.specs.Inner.Added.{amount_at, unpoured, row_square}
use Rattle.adding.proofs.added.pour_all.Given as goal

abbrev pub invariant-loop-j : goal.invariant-loop-j
invariant-loop-j l = (length l.room ≡ squares l.way.shape)
    × (l.room ≡ filled (squares l.way.shape) (unpoured l.way.shape l.way.rules l.inflow l.start l.end l.rain l.j) (amount_at l.way.shape l.way.rules l.inflow l.start l.end l.rain) l.initial.room)
    × (all_below l.j (λ k. leb (amount_at l.way.shape l.way.rules l.inflow l.start l.end l.rain (row_square l.way.shape l.way.rules l.inflow l.start l.end l.rain k)) most_depth) ≡ true)
