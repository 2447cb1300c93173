-- `desk::further_steps` is safe and ends: a line `step` takes at most so many calls. After each step a further one may follow.
-- Assumes nothing.
use Rattle.sheet.specs.Sheet.{rooms}
use Rattle.evenings.specs.Program.{Stores, stores}
use Rattle.desks.proofs.FurtherLaws.{further-after}
use Rattle.desk.proofs.further_steps.Goals as goal
use Rattle.desk.proofs.further_steps.Given.{Over}
use Rattle.desk.proofs.further_steps.Goals.{At-loop}

-- the rooms as the loop finds them
abbrev r : (o : Over) → At-loop o → Stores
r o c =
    stores
    (rooms c.args.marks.now c.args.beds.now c.args.roughness.now c.args.rates.now c.loop.depths c.args.rain.now
    c.args.inflow.now)
    c.loop.lasts c.loop.records c.loop.began

-- ---- the answers

pub loop-preserved : goal.loop-preserved
loop-preserved o c = further-after c.loop.desk (r o (goal.at.loop-preserved o c).At-loop) c.make_further-desk.ensures
