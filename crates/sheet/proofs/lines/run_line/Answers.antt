-- `sheet::lines::run_line` meets its contract: the fields read are handed on.
-- Assumes nothing.
use mathlib.Core.Path.{ap, ◌∙◌}
use Rattle.std.proofs.Common.{option_map}
use Rattle.sheet.specs.Lines.{as_run, run_line}
use Rattle.sheet.proofs.lines.run_line.Goals as goal

pub returns-in_err-line : goal.returns-in_err-line
unfolding run_line
returns-in_err-line c = c.from_residual.ensures ∙ ap (option_map (as_run c.args.side)) c.in_err-line.ensures

pub returns : goal.returns
unfolding as_run run_line
returns c = ap (option_map (as_run c.args.side)) c.in_ok-line.ensures
