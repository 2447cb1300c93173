-- `rule::weighing::critical_speed` meets its contract.
-- Assumes nothing.
use Rattle.rule.proofs.WeighingLaws.{critical_is}
use Rattle.rule.proofs.weighing.critical_speed.Goals as goal

pub returns : goal.returns
returns c = critical_is c.requires c.square_root.ensures
