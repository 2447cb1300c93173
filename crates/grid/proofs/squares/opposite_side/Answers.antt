-- `grid::squares::opposite_side` meets its contract: two sides on, and round again.
-- Assumes nothing.
use Rattle.grid.proofs.SquareLaws.{opposite_low, opposite_high}
use Rattle.grid.proofs.squares.opposite_side.Goals as goal

pub returns-then-side-lt-SOUTH : goal.returns-then-side-lt-SOUTH
returns-then-side-lt-SOUTH c = opposite_low _ c.if-side-lt-SOUTH.true

pub returns : goal.returns
returns c = opposite_high _ c.if-side-lt-SOUTH.false c.requires
