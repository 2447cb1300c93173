-- `rule::weighing::through_sides` meets its contract.
-- Assumes nothing.
use Rattle.rule.specs.Weighing.{through_sides}
use Rattle.rule.proofs.weighing.through_sides.Goals as goal

pub returns : goal.returns
unfolding through_sides
returns c = cc
