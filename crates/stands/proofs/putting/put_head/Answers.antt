-- `stands::putting::put_head` meets its contract: the five lines, one after the other.
-- Assumes nothing.
use Rattle.stands.proofs.PutLaws.{head_put}
use Rattle.stands.proofs.putting.put_head.Goals as goal

pub returns : goal.returns
returns c =
    head_put c.args.saved c.args.at c.args.out.now c.requires c.put_first-first.ensures c.put_total-second.ensures c.put_total-third.ensures
    c.put_total-fourth.ensures c.put_total.ensures
