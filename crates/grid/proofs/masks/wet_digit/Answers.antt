-- `grid::masks::wet_digit` meets its contract: a closed square is 0, and any other by the comparison.
-- Assumes nothing.
use mathlib.Core.Path.{sym, ◌∙◌}
use borrow.Author.Tests.{le-leb, lt-leb}
use Rattle.reckon.specs.Tests.{pick}
use Rattle.grid.specs.Masks.{digit, is_wet}
use Rattle.grid.proofs.masks.wet_digit.Goals as goal

pub returns-then-is_closed : goal.returns-then-is_closed
unfolding digit is_wet pick
returns-then-is_closed c = rw (sym c.is_closed.ensures ∙ c.if-is_closed.true)

pub returns-then-least-depths : goal.returns-then-least-depths
unfolding digit is_wet pick
returns-then-least-depths c = rw (sym c.is_closed.ensures ∙ c.if-is_closed.false, le-leb _ _ c.if-least-depths.true)

pub returns : goal.returns
unfolding digit is_wet pick
returns c = rw (sym c.is_closed.ensures ∙ c.if-is_closed.false, lt-leb _ _ c.if-least-depths.false)
