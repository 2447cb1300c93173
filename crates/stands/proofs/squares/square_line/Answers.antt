-- `stands::squares::square_line` meets its contract: the mark, the line and its square decide.
-- Assumes nothing.
use mathlib.Core.Path.{sym, ◌∙◌}
use Rattle.stands.specs.Laying.{closed_square}
use Rattle.stands.proofs.SquareLaws.{square_closed, square_unfound, square_other, square_here}
use Rattle.stands.proofs.squares.square_line.Goals as goal

pub returns-then-is_closed : goal.returns-then-is_closed
unfolding closed_square
returns-then-is_closed c = square_closed _ _ _ _ (sym c.is_closed.ensures ∙ c.if-is_closed.true)

pub returns-in_err-line : goal.returns-in_err-line
returns-in_err-line c =
    c.from_residual.ensures ∙ square_unfound _ _ _ _ (sym c.is_closed.ensures ∙ c.if-is_closed.false) c.in_err-line.ensures

pub returns-then-values-square : goal.returns-then-values-square
returns-then-values-square c =
    square_other _ _ _ _ (sym c.is_closed.ensures ∙ c.if-is_closed.false) c.in_ok-line.ensures c.if-values-square.true

pub returns : goal.returns
returns c = square_here _ _ _ _ (sym c.is_closed.ensures ∙ c.if-is_closed.false) c.in_ok-line.ensures c.if-values-square.false
