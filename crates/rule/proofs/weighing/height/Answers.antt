-- `rule::weighing::height` meets its contract: its cube is at most the depth's square.
-- Assumes nothing.
use Rattle.rule.proofs.WeighingLaws.{height_is}
use Rattle.rule.proofs.weighing.height.Goals as goal

pub returns : goal.returns
returns c = height_is c.requires c.cube_root.ensures
