-- `calls::hatch_log::after_take_line` meets its contract: what the call promises is what its caller has.
-- Assumes nothing.
use Rattle.calls.proofs.EveningLaws.{after_line}
use Rattle.calls.proofs.hatch_log.after_take_line.Goals as goal

pub returns : goal.returns
returns c = after_line _ _ _ _ _ _ c.take_line.ensures
