-- `desks::orders::whole_line` meets its contract: a line that comes to the text's end, or nothing.
-- Assumes nothing.
use mathlib.Core.Path.{◌∙◌}
use Rattle.desks.proofs.OrderLaws.{no_line, whole_read, not_whole}
use Rattle.desks.proofs.orders.whole_line.Goals as goal

pub returns-in_err-line : goal.returns-in_err-line
returns-in_err-line c = c.from_residual.ensures ∙ no_line _ _ _ c.in_err-line.ensures

pub returns-then-line-text : goal.returns-then-line-text
returns-then-line-text c = not_whole _ _ _ c.in_ok-line.ensures c.if-line-text.true

pub returns : goal.returns
returns c = whole_read _ _ _ c.in_ok-line.ensures c.if-line-text.false
