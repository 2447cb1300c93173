-- `sheet::lines::grid_line` meets its contract: the fields read are handed on.
-- Assumes nothing.
use mathlib.Core.Path.{ap, ◌∙◌}
use Rattle.std.proofs.Common.{option_map}
use Rattle.sheet.specs.Lines.{as_grid, grid_line}
use Rattle.sheet.proofs.lines.grid_line.Goals as goal

pub returns-in_err-line : goal.returns-in_err-line
unfolding grid_line
returns-in_err-line c = c.from_residual.ensures ∙ ap (option_map as_grid) c.in_err-line.ensures

pub returns : goal.returns
unfolding as_grid grid_line
returns c = ap (option_map as_grid) c.in_ok-line.ensures
