-- `calls::hatch_log::after_take_entry` meets its contract: what the call promises is what its caller has.
-- Assumes nothing.
use Rattle.calls.proofs.EveningLaws.{after_read-entry}
use Rattle.calls.proofs.hatch_log.after_take_entry.Goals as goal

pub returns : goal.returns
returns c = after_read-entry _ _ _ _ c.take_entry.ensures
