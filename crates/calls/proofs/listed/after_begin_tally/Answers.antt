-- `calls::listed::after_begin_tally` meets its contract: what the call promises is what its caller has.
-- Assumes nothing.
use Rattle.calls.proofs.ListedLaws.{after-beginning}
use Rattle.calls.proofs.listed.after_begin_tally.Goals as goal

pub returns : goal.returns
returns c = after-beginning _ c.begin_tally.ensures
