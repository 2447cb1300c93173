-- `sheet::lines::open_cell` meets its contract: the fields read are handed on.
-- Assumes nothing.
use mathlib.Core.Path.{ap, ◌∙◌}
use Rattle.std.proofs.Common.{option_map}
use Rattle.sheet.specs.Lines.{as_open, open_cell}
use Rattle.sheet.proofs.lines.open_cell.Goals as goal

pub returns-in_err-rest : goal.returns-in_err-rest
unfolding open_cell
returns-in_err-rest c = c.from_residual.ensures ∙ ap (option_map (as_open c.args.mark)) c.in_err-rest.ensures

pub returns : goal.returns
unfolding as_open open_cell
returns c = ap (option_map (as_open c.args.mark)) c.in_ok-rest.ensures
