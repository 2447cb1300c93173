-- `rule::weighing::least_drop` meets its contract.
-- Assumes nothing.
use Rattle.rule.specs.Weighing.{least_drop}
use Rattle.rule.proofs.weighing.least_drop.Goals as goal

pub returns : goal.returns
unfolding least_drop
returns c = cc
