-- `rule::weighing::halves` meets its contract: where one side alone has a drop, its share is half, and no other has one.
-- Assumes nothing.
use Rattle.rule.proofs.WeighingLaws.{one_through}
use Rattle.rule.proofs.weighing.halves.Goals as goal

pub returns : goal.returns
returns c =
    one_through _ c.requires.1 _ c.requires.0 c.half.ensures c.half-2.ensures c.half-3.ensures
    c.half-4.ensures
