-- `rule::weighing::most_held` meets its contract: by the whole height the most is the document's.
-- Assumes nothing.
use native.Mathlib.Omega.{arith}
use Rattle.rule.proofs.WeighingLaws.{slope_le, most_whole}
use Rattle.rule.proofs.weighing.most_held.Goals as goal

pub most_by-requires : goal.most_by-requires
most_by-requires c =
    let o = c.requires in
    (o.0, omega (arith, o.3), omega (arith, c.slope.ensures, slope_le c.args.rules o.1), o.2)

pub returns : goal.returns
returns c =
    let a = c.args in
    most_whole a.rules a.depth a.roughness a.lasts a.drop c.requires.3 c.slope.ensures c.most_by.ensures
