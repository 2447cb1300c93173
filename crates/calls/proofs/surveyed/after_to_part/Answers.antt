-- `calls::surveyed::after_to_part` meets its contract: what the call promises is what its caller has.
-- Assumes nothing.
use Rattle.calls.proofs.SurveyedLaws.{after_part}
use Rattle.calls.proofs.surveyed.after_to_part.Goals as goal

pub returns : goal.returns
returns c = after_part _ _ c.to_part.ensures
