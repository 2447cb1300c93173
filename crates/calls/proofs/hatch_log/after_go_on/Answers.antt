-- `calls::hatch_log::after_go_on` meets its contract: what the call promises is what its caller has.
-- Assumes nothing.
use Rattle.calls.proofs.EveningLaws.{after-going_on}
use Rattle.calls.proofs.hatch_log.after_go_on.Goals as goal

pub returns : goal.returns
returns c = after-going_on c.go_on.ensures
