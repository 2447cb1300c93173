-- `rule::weighing::speed` meets its contract: the product of the roots is bounded by their bounds, and the square of Manning's speed
-- tells which of the two is the smaller.
-- Assumes nothing.
use Prim.Native.Nat.{◌*◌, ◌≤◌}
use native.Mathlib.Nat.{mul-le-mul}
use native.Mathlib.Omega.{arith}
use Rattle.rule.proofs.WeighingLaws.{height_le, manning_smaller, critical_smaller}
use Rattle.rule.proofs.weighing.speed.Goals as goal

pub overflow_mul-manning : goal.overflow_mul-manning
overflow_mul-manning c = omega (arith, c.requires.1, height_le c.requires.0)

pub overflow_mul-manning-2 : goal.overflow_mul-manning-2
overflow_mul-manning-2 c =
    let h : 100 * c.args.high ≤ 21544300 = omega (arith, c.requires.1, height_le c.requires.0) in
    omega (arith, mul-le-mul h c.requires.2)

pub returns-then-is_subcritical : goal.returns-then-is_subcritical
returns-then-is_subcritical c =
    let a = c.args in
    manning_smaller a.depth a.high a.steep a.roughness c.requires.0 c.is_subcritical.ensures c.if-is_subcritical.true

pub returns : goal.returns
returns c =
    let a = c.args in
    critical_smaller a.depth a.high a.steep a.roughness c.requires.0 c.is_subcritical.ensures c.if-is_subcritical.false
    c.critical_speed.ensures
