-- `rule::weighing::drop_sum` meets its contract.
-- Assumes nothing.
use native.Mathlib.Omega.{arith}
use Rattle.rule.specs.Weighing.{drop_sum}
use Rattle.rule.proofs.WeighingLaws.{least_le}
use Rattle.rule.proofs.weighing.drop_sum.Goals as goal

pub overflow_add-result-4 : goal.overflow_add-result-4
overflow_add-result-4 c = omega (arith, least_le c.requires.drops_in_range)

pub returns : goal.returns
unfolding drop_sum
returns c = cc
