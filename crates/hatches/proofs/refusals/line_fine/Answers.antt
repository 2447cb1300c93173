-- `hatches::refusals::line_fine` meets its contract, kind by kind.
-- Assumes nothing.
use mathlib.Core.Path.{sym, ap}
use Rattle.hatches.specs.Log.{line_fine}
use Rattle.hatches.proofs.refusals.line_fine.Goals as goal

pub returns-in-Back : goal.returns-in-Back
unfolding line_fine
returns-in-Back c = ap (line_fine c.args.rules c.args.log) (sym c.in-Back.is)
