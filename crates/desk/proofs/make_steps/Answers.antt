-- `desk::make_steps` is safe and ends: what the first step leaves is what the further ones go by.
-- Assumes nothing.
use Rattle.sheet.specs.Sheet.{rooms}
use Rattle.evenings.specs.Program.{Stores, stores}
use Rattle.desks.proofs.FurtherLaws.{further-after}
use Rattle.desk.proofs.make_steps.Goals as goal
use Rattle.desk.proofs.make_steps.Given.{Over}
use Rattle.desk.proofs.make_steps.Goals.{Start}

-- the rooms that were lent
abbrev r : (o : Over) → Start o → Stores
r o s =
    stores
    (rooms s.args.marks.now s.args.beds.now s.args.roughness.now s.args.rates.now s.args.depths.now s.args.rain.now
    s.args.inflow.now)
    s.args.lasts.now s.args.records.now s.args.began.now

-- ---- the answers

pub further_steps-requires : goal.further_steps-requires
further_steps-requires o c = further-after c.args.begun (r o (goal.at.further_steps-requires o c).Start) c.make_next-first.ensures
