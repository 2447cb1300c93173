-- `desk_calls::several::step_and_back` meets its contract: what the calls promise is what their caller has.
-- Assumes nothing.
use Rattle.desk_calls.proofs.SeveralLaws.{after-step_back}
use Rattle.desk_calls.proofs.several.step_and_back.Goals as goal

pub returns : goal.returns
returns c = after-step_back _ _ _ _ c.make_next-tried.ensures c.command.ensures
