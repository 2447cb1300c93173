-- `stands::heads::stand_line` meets its contract: the fields read are handed on.
-- Assumes nothing.
use Rattle.stands.proofs.HeadLaws.{first_none, first_is}
use Rattle.stands.proofs.heads.stand_line.Goals as goal

pub returns-in_default : goal.returns-in_default
returns-in_default c = first_none _ c.in_default.ensures

pub returns : goal.returns
returns c = first_is _ c.in-Some.ensures
