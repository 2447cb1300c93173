-- `calls::listed::after_highest_of` meets its contract: what the call promises is what its caller has.
-- Assumes nothing.
use Rattle.calls.proofs.ListedLaws.{after_highest}
use Rattle.calls.proofs.listed.after_highest_of.Goals as goal

pub returns : goal.returns
returns c = after_highest c.highest_of.ensures
