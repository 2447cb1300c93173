-- Laws of quotients of variables, rounded down.
-- Assumes nothing.
use mathlib.Core.Path.{◌≡◌, ap}
use Prim.Native.Nat.{ℕ, zero, suc, ◌+◌, ◌*◌, ◌/◌, ◌≤◌, ◌<◌}
use native.Mathlib.Nat.{le_trans, le_of_lt, zero-lt-suc, div-zero, le-div_iff_mul-le, div-mul-le_self, div-le_of_le-mul, mul_comm, mul-le-mul_left, mul-le-mul_right, mul-suc}
use native.Mathlib.Omega.{arith}
use Rattle.reckon.specs.Numbers.{held_part}

pub div_mono : (k : ℕ) {a b : ℕ} → a ≤ b → a / k ≤ b / k
div_mono zero {a} {b} h = rw (div-zero a) (omega arith)
div_mono (suc k) {a} {b} h = (le-div_iff_mul-le (zero-lt-suc k)).1 (le_trans (div-mul-le_self a (suc k)) h)

-- d times t / v is at least d where t is at least v
pub le_scaled : (d : ℕ) {v t : ℕ} → 0 < v → v ≤ t → d ≤ d * t / v
le_scaled d pos le = (le-div_iff_mul-le pos).1 (mul-le-mul_left d le)

-- part j of a length cut into parts of a width lies within it
pub part_within : (width : ℕ) {j n : ℕ} → 0 < width → j < n / width → width * j + width ≤ n
part_within width {j} {n} pos h =
    omega (arith, (le-div_iff_mul-le pos).0 h, mul_comm (suc j) width, mul-suc width j)

-- ---- a part of d, held to d
pub part_all : (d x y : ℕ) → 0 < y → y ≤ x → d ≡ held_part d x y
unfolding held_part
part_all d x y pos le = omega (arith, le_scaled d pos le, ap (λ (z : ℕ). z / y) (mul_comm d x))

pub part_some : (d x y : ℕ) → x < y → x * d / y ≡ held_part d x y
unfolding held_part
part_some d x y lt = omega (arith, div-le_of_le-mul y (mul-le-mul_right d (le_of_lt lt)))
