-- `rule::low_roots::low_cube_root` meets its contract: the straight line lies below the root.
-- Assumes nothing.
use mathlib.Core.Path.{refl}
use Prim.Native.Nat.{◌*◌, ◌/◌, ◌%◌, ◌^◌, ◌+◌, ◌<◌}
use native.Mathlib.Omega.{arith}
use Rattle.rule.proofs.LowRootLaws.{one_moved, cube_low, cube_fits}
use Rattle.rule.proofs.low_roots.low_cube_root.Goals as goal
use Rattle.rule.proofs.low_roots.low_cube_root.Goals.{After-top_digit-place}

fits : (c : After-top_digit-place) → let k = c.top_digit-place.result / 3 in 6 * (1 * 2 ^ k % 2 ^ 64) + c.args.n / 2 ^ (2 * k) < 2 ^ 64
fits c =
    let top = c.top_digit-place.ensures in
    let j = c.top_digit-place.result in
    cube_fits c.args.n j (j / 3) top.0 top.1 top.2 (one_moved (omega (arith, top.2))) refl

pub overflow_mul-result : goal.overflow_mul-result
overflow_mul-result c = record { fits = omega (arith, fits c) }

pub overflow_add-result : goal.overflow_add-result
overflow_add-result c = record { fits = omega (arith, fits c) }

pub returns : goal.returns
returns c =
    let top = c.top_digit-place.ensures in
    let j = c.top_digit-place.result in
    cube_low c.args.n j (j / 3) top.0 top.1 top.2 (one_moved (omega (arith, top.2))) refl
