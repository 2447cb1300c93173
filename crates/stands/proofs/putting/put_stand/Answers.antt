-- `stands::putting::put_stand` meets its contract: head, hatches and squares, one after the other.
-- Assumes nothing.
use Rattle.ledger.specs.Runs.{plan}
use Rattle.stands.proofs.PutLaws.{stand_put}
use Rattle.stands.proofs.putting.put_stand.Goals as goal

pub returns : goal.returns
returns c =
    stand_put (plan c.args.shape c.args.marks.now) c.args.depths.now c.args.lasts.now c.args.saved c.args.at c.args.out.now c.requires.shape_in_range.0 c.requires.most_stand_in_bounds
    c.put_head-head.ensures c.put_hatches-named.ensures c.put_squares.ensures
