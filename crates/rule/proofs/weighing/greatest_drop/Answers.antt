-- `rule::weighing::greatest_drop` meets its contract.
-- Assumes nothing.
use Rattle.rule.specs.Weighing.{greatest_drop}
use Rattle.rule.proofs.weighing.greatest_drop.Goals as goal

pub returns : goal.returns
unfolding greatest_drop
returns c = cc
