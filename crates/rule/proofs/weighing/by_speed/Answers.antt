-- `rule::weighing::by_speed` meets its contract: twice the most is the quotient where T is twice VM.
-- Assumes nothing.
use Rattle.rule.proofs.WeighingLaws.{by_twice}
use Rattle.rule.proofs.weighing.by_speed.Goals as goal

pub returns-then-sum-steepest : goal.returns-then-sum-steepest
returns-then-sum-steepest c = by_twice c.args.most c.requires.2 c.if-sum-steepest.true
