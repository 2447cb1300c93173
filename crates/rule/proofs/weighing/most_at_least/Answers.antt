-- `rule::weighing::most_at_least` meets its contract: the bounds are at most the height and the slope, which let no less through.
-- Assumes nothing.
use Prim.Native.Nat.{◌≤◌}
use native.Mathlib.Omega.{arith}
use Rattle.rule.specs.Weighing.{height_of, slope_of}
use Rattle.rule.proofs.WeighingLaws.{height_low, slope_low, slope_le, most_low}
use Rattle.rule.proofs.weighing.most_at_least.Goals as goal
use Rattle.rule.proofs.weighing.most_at_least.Goals.{After-low_cube_root-high, After-low_square_root-steep}

high-to : (c : After-low_cube_root-high) → c.low_cube_root-high.result ≤ height_of c.args.depth
high-to c = height_low _ c.requires.0.depth_to c.low_cube_root-high.ensures

steep-to : (c : After-low_square_root-steep) → let a = c.args in c.low_square_root-steep.result ≤ slope_of a.rules a.drop
steep-to c =
    slope_low c.args.rules _ c.requires.1 c.low_square_root-steep.ensures

pub most_by-requires : goal.most_by-requires
most_by-requires c =
    let o = c.requires in
    (o.0, high-to (goal.at.most_by-requires c).After-low_cube_root-high, omega (arith, steep-to c, slope_le c.args.rules o.1), o.2)

pub returns : goal.returns
returns c =
    let a = c.args in
    most_low a.rules a.depth a.roughness a.lasts a.drop (high-to (goal.at.returns c).After-low_cube_root-high) (steep-to (goal.at.returns c).After-low_square_root-steep) c.most_by.ensures
