-- `desk_calls::several::in_turn` meets its contract: what the calls promise is what their caller has.
-- Assumes nothing.
use Rattle.desk_calls.proofs.SeveralLaws.{after_turns}
use Rattle.desk_calls.proofs.several.in_turn.Goals as goal

pub returns : goal.returns
returns c = after_turns _ _ _ _ _ _ _ _ c.command-asked.ensures c.command-other.ensures c.make_next-one.ensures
