-- `rule::weighing::scaled` meets its contract: the sum decides, and each share is that of the depth.
-- Assumes nothing.
use Rattle.rule.proofs.WeighingLaws.{scaled_kept, scaled_cut}
use Rattle.rule.proofs.weighing.scaled.Goals as goal

pub returns-then-sum-depth : goal.returns-then-sum-depth
returns-then-sum-depth c = scaled_kept c.args.depth c.args.amounts c.if-sum-depth.true

pub returns : goal.returns
returns c =
    let a = c.args in
    scaled_cut a.depth a.amounts c.if-sum-depth.false c.share.ensures c.share-2.ensures c.share-3.ensures
    c.share-4.ensures
