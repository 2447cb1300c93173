-- `calls::hatch_log::after_begin_log` meets its contract: what the call promises is what its caller has.
-- Assumes nothing.
use Rattle.calls.proofs.EveningLaws.{after_begin}
use Rattle.calls.proofs.hatch_log.after_begin_log.Goals as goal

pub returns : goal.returns
returns c = after_begin c.begin_log.ensures
