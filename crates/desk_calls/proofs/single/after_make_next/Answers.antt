-- `desk_calls::single::after_make_next` meets its contract: what the call promises is what its caller has.
-- Assumes nothing.
use Rattle.desk_calls.proofs.SingleLaws.{after_next}
use Rattle.desk_calls.proofs.single.after_make_next.Goals as goal

pub returns : goal.returns
returns c = after_next _ _ c.make_next.ensures
