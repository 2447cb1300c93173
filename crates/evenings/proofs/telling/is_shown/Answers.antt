-- `evenings::telling::is_shown` meets its contract, kind by kind.
-- Assumes nothing.
use mathlib.Core.Path.{sym, ap}
use Rattle.evenings.specs.Shown.{is_shown}
use Rattle.evenings.proofs.telling.is_shown.Goals as goal

pub returns-in-Hatch : goal.returns-in-Hatch
unfolding is_shown
returns-in-Hatch c = ap is_shown (sym c.in-Hatch.is)

pub returns-in-Rate : goal.returns-in-Rate
unfolding is_shown
returns-in-Rate c = ap is_shown (sym c.in-Rate.is)

pub returns-in-Back : goal.returns-in-Back
unfolding is_shown
returns-in-Back c = ap is_shown (sym c.in-Back.is)
