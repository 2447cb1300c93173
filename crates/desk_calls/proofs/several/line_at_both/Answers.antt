-- `desk_calls::several::line_at_both` meets its contract: what the calls promise is what their caller has.
-- Assumes nothing.
use Rattle.desk_calls.proofs.SeveralLaws.{after_line}
use Rattle.desk_calls.proofs.several.line_at_both.Goals as goal

pub returns : goal.returns
returns c = after_line _ _ _ _ _ _ c.command-one.ensures c.command-other.ensures
