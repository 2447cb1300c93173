-- `desk_calls::several::step_at_both` meets its contract: what the calls promise is what their caller has.
-- Assumes nothing.
use Rattle.desk_calls.proofs.SeveralLaws.{after_next_both}
use Rattle.desk_calls.proofs.several.step_at_both.Goals as goal

pub returns : goal.returns
returns c = after_next_both _ _ _ _ c.make_next-one.ensures c.make_next-other.ensures
