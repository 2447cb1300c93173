-- `stands::heads::read_head` meets its contract: each line starts where the one before it ends.
-- Assumes nothing.
use Rattle.stands.proofs.HeadLaws.{head_is}
use Rattle.stands.proofs.heads.read_head.Goals as goal

pub returns : goal.returns
returns c =
    head_is _ c.stand_line-first.ensures c.total_line-out.ensures c.total_line-soak.ensures c.total_line-start.ensures
    c.total_line-given.ensures
    c.first_unfound-bad.ensures
