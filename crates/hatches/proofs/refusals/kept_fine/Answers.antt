-- `hatches::refusals::kept_fine` meets its contract, kind by kind.
-- Assumes nothing.
use mathlib.Core.Path.{sym, ap}
use Rattle.hatches.specs.Log.{kept_fine}
use Rattle.hatches.proofs.refusals.kept_fine.Goals as goal

pub returns-in-Hatch : goal.returns-in-Hatch
unfolding kept_fine
returns-in-Hatch c = ap (kept_fine c.args.log) (sym c.in-Hatch.is)

pub returns-in-Rate : goal.returns-in-Rate
unfolding kept_fine
returns-in-Rate c = ap (kept_fine c.args.log) (sym c.in-Rate.is)

pub returns-in-Back : goal.returns-in-Back
unfolding kept_fine
returns-in-Back c = ap (kept_fine c.args.log) (sym c.in-Back.is)
