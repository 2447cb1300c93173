-- `settling::reach::cover_one` meets its contract: a number stored where it stands changes nothing.
-- Assumes nothing.
use Rattle.std.proofs.Common.{get_or}
use Rattle.settling.proofs.ReachLaws.{store_chosen}
use Rattle.settling.proofs.reach.cover_one.Goals as goal

pub returns : goal.returns
returns c = store_chosen c.args.list.now c.args.square (get_or c.args.from.now c.args.square 0) c.chosen.ensures c.is_closed.ensures
