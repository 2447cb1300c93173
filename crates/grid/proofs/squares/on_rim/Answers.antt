-- `grid::squares::on_rim` meets its contract: a test that holds names the side with no square, and where none does all four have one.
-- Assumes nothing.
use mathlib.Core.Path.{refl}
use native.Mathlib.Omega.{arith}
use Rattle.grid.specs.Squares.{north, east, south, west}
use Rattle.grid.proofs.SquareLaws.{at_last, before_last, at_first, after_first, north_none, east_none, south_none, west_none, on_the_rim, off_the_rim, inner}
use Rattle.grid.proofs.squares.on_rim.Goals as goal

pub returns-then-square-columns : goal.returns-then-square-columns
returns-then-square-columns c = on_the_rim _ _ {side = north} (omega arith) (north_none _ _ refl c.if-square-columns.true)

pub returns-then-column-columns : goal.returns-then-column-columns
returns-then-column-columns c = on_the_rim _ _ {side = east} (omega arith) (east_none _ _ refl (at_last _ c.requires c.if-column-columns.true))

pub returns-then-column-eq0 : goal.returns-then-column-eq0
returns-then-column-eq0 c = on_the_rim _ _ {side = west} (omega arith) (west_none _ _ refl (at_first _ c.requires c.if-column-eq0.true))

pub returns-then-squares_of-square : goal.returns-then-squares_of-square
returns-then-squares_of-square c = on_the_rim _ _ {side = south} (omega arith) (south_none _ _ refl (omega (arith, c.squares_of.ensures, c.if-squares_of-square.true)))

pub returns : goal.returns
returns c =
    let north-in = c.if-square-columns.false in
    let east_in = before_last _ c.requires c.if-column-columns.false in
    let west_in = after_first _ c.requires c.if-column-eq0.false in
    off_the_rim _ _
    (inner c.args.shape c.requires.inside north-in east_in (omega (arith, c.squares_of.ensures)) west_in)
