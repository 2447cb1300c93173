-- `calls::surveyed::after_from_set` meets its contract: what the call promises is what its caller has.
-- Assumes nothing.
use Rattle.calls.proofs.SurveyedLaws.{after-set}
use Rattle.calls.proofs.surveyed.after_from_set.Goals as goal

pub returns : goal.returns
returns c = after-set _ c.from_set.ensures
