-- `grid::squares::beside_on` meets its contract: each test is that of the side, said of the column.
-- Assumes nothing.
use mathlib.Core.Path.{sym, ◌∙◌}
use native.Mathlib.Omega.{arith}
use Rattle.grid.proofs.SquareLaws.{at_last, before_last, at_first, after_first, north_some, north_none, east_some, east_none, south_some, south_none, west_some, west_none}
use Rattle.grid.proofs.squares.beside_on.Goals as goal

pub returns-then-columns-square : goal.returns-then-columns-square
returns-then-columns-square c = sym (north_some _ _ c.if-side-eq-NORTH.true c.if-columns-square.true)

pub returns-then-side-eq-NORTH : goal.returns-then-side-eq-NORTH
returns-then-side-eq-NORTH c = c.squares_of-none.ensures ∙ sym (north_none _ _ c.if-side-eq-NORTH.true c.if-columns-square.false)

pub returns-then-column-columns : goal.returns-then-column-columns
returns-then-column-columns c = c.squares_of-none.ensures ∙ sym (east_none _ _ c.if-side-eq-EAST.true (at_last _ c.requires.0 c.if-column-columns.true))

pub returns-then-side-eq-EAST : goal.returns-then-side-eq-EAST
returns-then-side-eq-EAST c = sym (east_some _ _ c.if-side-eq-EAST.true (before_last _ c.requires.0 c.if-column-columns.false))

pub returns-then-at-none : goal.returns-then-at-none
returns-then-at-none c = sym (south_some _ _ c.if-side-eq-SOUTH.true (omega (arith, c.squares_of-none.ensures, c.if-at-none.true)))

pub returns-then-side-eq-SOUTH : goal.returns-then-side-eq-SOUTH
returns-then-side-eq-SOUTH c = c.squares_of-none.ensures ∙ sym (south_none _ _ c.if-side-eq-SOUTH.true (omega (arith, c.squares_of-none.ensures, c.if-at-none.false)))

pub returns-then-column-eq0 : goal.returns-then-column-eq0
returns-then-column-eq0 c = c.squares_of-none.ensures ∙ sym (west_none _ _ (omega arith) (at_first _ c.requires.0 c.if-column-eq0.true))

pub returns : goal.returns
returns c = sym (west_some _ _ (omega arith) (after_first _ c.requires.0 c.if-column-eq0.false))
