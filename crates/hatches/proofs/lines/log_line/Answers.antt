-- `hatches::lines::log_line` meets its contract: the three kinds of line in their order.
-- Assumes nothing.
use mathlib.Core.Path.{◌∙◌}
use Rattle.hatches.proofs.LineLaws.{line_hatch, line-back, line_rate}
use Rattle.hatches.proofs.lines.log_line.Goals as goal

pub returns-in-Some : goal.returns-in-Some
returns-in-Some c = line_hatch _ _ c.in-Some.ensures

pub returns-in-Some-line_of : goal.returns-in-Some-line_of
returns-in-Some-line_of c = line-back _ _ c.in_default.ensures c.in-Some-line_of.ensures

pub returns : goal.returns
returns c = c.unwrap_or.ensures ∙ line_rate _ _ c.in_default.ensures c.in_default-line_of.ensures c.rate_line.ensures
