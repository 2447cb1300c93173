-- `rule::weighing::slope` meets its contract: its square is at most 100 drops over the side.
-- Assumes nothing.
use Rattle.rule.proofs.WeighingLaws.{slope_is}
use Rattle.rule.proofs.weighing.slope.Goals as goal

pub returns : goal.returns
returns c = slope_is c.args.rules c.requires.1 c.square_root.ensures
