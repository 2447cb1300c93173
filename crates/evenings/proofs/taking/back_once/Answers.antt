-- `evenings::taking::back_once` meets its contract: the world before the step, or the world as it was.
-- Assumes nothing.
use Rattle.ledger.specs.Runs.{plan, world}
use Rattle.evenings.proofs.BackLaws.{back_done, back_refused}
use Rattle.evenings.proofs.taking.back_once.Goals as goal

pub returns-in-Done : goal.returns-in-Done
returns-in-Done c =
    back_done (plan c.args.shape c.args.marks.now)
    (world c.args.depths.now c.args.lasts.now c.args.records.now c.args.run) c.take_back.ensures
    c.in-Done.is

pub returns-in-Refused : goal.returns-in-Refused
returns-in-Refused c =
    back_refused (plan c.args.shape c.args.marks.now)
    (world c.args.depths.now c.args.lasts.now c.args.records.now c.args.run) c.take_back.ensures
    c.in-Refused.is
