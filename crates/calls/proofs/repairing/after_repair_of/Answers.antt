-- `calls::repairing::after_repair_of` meets its contract: what the call promises is what its caller has.
-- Assumes nothing.
use Rattle.calls.proofs.RepairingLaws.{after_repair}
use Rattle.calls.proofs.repairing.after_repair_of.Goals as goal

pub returns : goal.returns
returns c = after_repair _ c.repair_of.ensures
