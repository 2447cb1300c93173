-- `calls::timed::after_hours_of` meets its contract: what the call promises is what its caller has.
-- Assumes nothing.
use Rattle.calls.proofs.TimedLaws.{after_hours}
use Rattle.calls.proofs.timed.after_hours_of.Goals as goal

pub returns : goal.returns
returns c = after_hours c.hours_of.ensures
