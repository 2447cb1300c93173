-- `stands::heads::total_line` meets its contract: the fields read are handed on.
-- Assumes nothing.
use Rattle.stands.proofs.HeadLaws.{total_none, total_is}
use Rattle.stands.proofs.heads.total_line.Goals as goal

pub returns-in_default : goal.returns-in_default
returns-in_default c = total_none _ _ _ c.in_default.ensures

pub returns : goal.returns
returns c = total_is _ _ _ c.in-Some.ensures c.whole-value.ensures
