-- `levels::lines::board_line` meets its contract: the row, and then the rest of the line.
-- Assumes nothing.
use mathlib.Core.Path.{◌∙◌}
use Rattle.levels.proofs.LineLaws.{line_none, line_short, line_is}
use Rattle.levels.proofs.lines.board_line.Goals as goal

pub returns-in_err-row : goal.returns-in_err-row
returns-in_err-row c = c.from_residual.ensures ∙ line_none _ _ c.in_err-row.ensures

pub returns-in_err-rest : goal.returns-in_err-rest
returns-in_err-rest c = c.from_residual-in_err-rest.ensures ∙ line_short _ _ c.in_ok-row.ensures c.in_err-rest.ensures

pub returns : goal.returns
returns c = line_is _ _ c.in_ok-row.ensures c.in_ok-rest.ensures
