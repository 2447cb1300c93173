-- `rule::weighing::most_by` meets its contract: the depth is at most what a part of it is held to.
-- Assumes nothing.
use Prim.Native.Nat.{◌≤◌}
use native.Mathlib.Nat.{mul-le-mul}
use native.Mathlib.Omega.{arith}
use Rattle.rule.proofs.WeighingLaws.{speed_le, most_made}
use Rattle.rule.proofs.weighing.most_by.Goals as goal

pub overflow_mul-moved : goal.overflow_mul-moved
overflow_mul-moved c =
    let a = c.args in
    let v : c.speed.result ≤ 31320919 = omega (arith, speed_le a.high a.steep a.roughness c.requires.0.depth_to) in
    omega (arith, mul-le-mul v c.requires.3)

pub returns : goal.returns
returns c =
    let a = c.args in
    most_made a.rules a.depth a.roughness a.lasts a.high a.steep c.speed.ensures c.part.ensures
