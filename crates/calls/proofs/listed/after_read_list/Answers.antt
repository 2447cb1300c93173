-- `calls::listed::after_read_list` meets its contract: what the call promises is what its caller has.
-- Assumes nothing.
use Rattle.calls.proofs.ListedLaws.{after_list}
use Rattle.calls.proofs.listed.after_read_list.Goals as goal

pub returns : goal.returns
returns c = after_list _ c.read_list.ensures
