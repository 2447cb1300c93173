-- `desk_calls::several::next_and_further` meets its contract: what the first step leaves is what the further one goes by.
-- Assumes nothing.
use Rattle.desks.proofs.FurtherLaws.{further-after}
use Rattle.desk_calls.proofs.SeveralLaws.{after-further}
use Rattle.desk_calls.proofs.several.next_and_further.Goals as goal

pub make_further-requires : goal.make_further-requires
make_further-requires c = further-after _ _ c.make_next-first.ensures

pub returns : goal.returns
returns c = after-further _ _ c.make_next-first.ensures c.make_further.ensures
