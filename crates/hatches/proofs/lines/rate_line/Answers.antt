-- `hatches::lines::rate_line` meets its contract: a clock, and then the rest of the line.
-- Assumes nothing.
use mathlib.Core.Path.{◌∙◌}
use Rattle.hatches.proofs.LineLaws.{rate_none, rate_unread, rate_read}
use Rattle.hatches.proofs.lines.rate_line.Goals as goal

pub returns-in_err-clock : goal.returns-in_err-clock
returns-in_err-clock c = c.from_residual.ensures ∙ rate_none _ _ c.in_err-clock.ensures

pub returns-in_err-rest : goal.returns-in_err-rest
returns-in_err-rest c = c.from_residual-in_err-rest.ensures ∙ rate_unread _ _ c.in_ok-clock.ensures c.in_err-rest.ensures

pub returns : goal.returns
returns c = rate_read _ _ c.in_ok-clock.ensures c.in_ok-rest.ensures
