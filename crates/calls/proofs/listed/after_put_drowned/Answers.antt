-- `calls::listed::after_put_drowned` meets its contract: what the call promises is what its caller has.
-- Assumes nothing.
use Rattle.calls.proofs.ListedLaws.{after-drowned}
use Rattle.calls.proofs.listed.after_put_drowned.Goals as goal

pub returns : goal.returns
returns c = after-drowned c.put_drowned.ensures
