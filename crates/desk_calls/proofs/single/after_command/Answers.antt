-- `desk_calls::single::after_command` meets its contract: what the call promises is what its caller has.
-- Assumes nothing.
use Rattle.desk_calls.proofs.SingleLaws.{after_command}
use Rattle.desk_calls.proofs.single.after_command.Goals as goal

pub returns : goal.returns
returns c = after_command _ _ _ _ c.command.ensures
