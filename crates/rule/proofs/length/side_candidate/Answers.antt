-- `rule::length::side_candidate` meets its contract: each product is bounded by the ranges of its factors.
-- Assumes nothing.
use Prim.Native.Nat.{◌≤◌}
use native.Mathlib.Nat.{mul-le-mul, mul-pos}
use native.Mathlib.Omega.{arith}
use Rattle.rule.proofs.WeighingLaws.{height_le, height_pos, slope_le}
use Rattle.rule.specs.Length.{candidate}
use Rattle.rule.proofs.LengthLaws.{rough_area_le}
use Rattle.rule.proofs.length.side_candidate.Goals as goal

pub overflow_mul-result-4 : goal.overflow_mul-result-4
overflow_mul-result-4 c =
    let s : c.slope.result ≤ 331662 = omega (arith, slope_le c.args.rules c.requires.2) in
    omega (arith, mul-le-mul (rough_area_le c.requires.0) s)

pub overflow_mul-result-5 : goal.overflow_mul-result-5
overflow_mul-result-5 c =
    let h : c.height.result ≤ 215443 = omega (arith, height_le c.requires.0.depth_to) in
    omega (arith, mul-le-mul c.requires.0.depth_to h)

pub nonzero_div-result : goal.nonzero_div-result
nonzero_div-result c = mul-pos c.requires.1 (omega (arith, height_pos c.requires.0.depth_to c.requires.1))

pub returns : goal.returns
unfolding candidate
returns c = cc
