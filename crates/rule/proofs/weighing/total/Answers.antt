-- `rule::weighing::total` meets its contract: where a bound of the most from below reaches the limit, the most does too.
-- Assumes nothing.
use Prim.Native.Nat.{◌≤◌}
use native.Mathlib.Nat.{mul-le-mul}
use native.Mathlib.Omega.{arith}
use Rattle.reckon.specs.Ranges.{most_depth}
use Rattle.rule.proofs.WeighingLaws.{slope_le, most_le, limit_le, total_early, total_late}
use Rattle.rule.proofs.weighing.total.Goals as goal

pub overflow_mul-limit : goal.overflow_mul-limit
overflow_mul-limit c =
    let a = c.args in
    let o = c.requires in
    let limit-to : c.limit-limit.result ≤ most_depth =
    omega (arith, c.limit-limit.ensures, limit_le a.rules a.depth a.last a.least, o.square.depth_to)
    in
    omega (arith, mul-le-mul limit-to o.steepest_to)

pub returns-then-limit-steepest : goal.returns-then-limit-steepest
returns-then-limit-steepest c =
    let a = c.args in
    total_early a.rules a.depth a.last a.roughness a.lasts a.steepest a.least a.sum c.limit-limit.ensures c.requires.steepest_from
    c.most_at_least-at_least.ensures c.if-limit-steepest.true

pub most_by-most-requires : goal.most_by-most-requires
most_by-most-requires c =
    let o = c.requires in (
      o.square,
      omega (arith, c.height.ensures),
      omega (arith, c.slope-steep.ensures, slope_le c.args.rules o.steepest_to),
      o.lasts_to,
    )

pub by_speed-requires : goal.by_speed-requires
by_speed-requires c =
    let a = c.args in
    let o = c.requires in (
      omega (arith, c.most_by-most.ensures, most_le a.rules a.depth a.roughness a.lasts c.height.result c.slope-steep.result, o.square.depth_to),
      o.sum_to,
      o.steepest_from,
      o.steepest_to,
    )

pub returns : goal.returns
returns c =
    let a = c.args in
    total_late a.rules a.depth a.last a.roughness a.lasts a.steepest a.least a.sum c.limit-limit.ensures c.height.ensures
    c.slope-steep.ensures c.most_by-most.ensures c.by_speed.ensures c.lesser.ensures
