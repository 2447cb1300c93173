-- `hatches::refusals::draw_fine` meets its contract, kind by kind.
-- Assumes nothing.
use mathlib.Core.Path.{sym, ap}
use Rattle.ledger.specs.Runs.{plan}
use Rattle.hatches.specs.Log.{draw_fine}
use Rattle.hatches.proofs.refusals.draw_fine.Goals as goal

pub returns-in-Back : goal.returns-in-Back
unfolding draw_fine
returns-in-Back c = ap (draw_fine (plan c.args.shape c.args.marks.now) c.args.inflow.now c.args.log) (sym c.in-Back.is)
