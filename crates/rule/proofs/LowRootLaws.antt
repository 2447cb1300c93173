-- Laws of the bounds of roots from below: on the straight line from the power of a to that of 2·a a number stands for no more than its
-- root, and where a is the power of two by the number's highest digit, the number is between those two.
-- Assumes nothing.
use mathlib.Core.Path.{◌≡◌, sym, ◌∙◌, ap, subst}
use Prim.Native.Nat.{ℕ, suc, ◌+◌, ◌-◌, ◌*◌, ◌/◌, ◌%◌, ◌^◌, ◌≤◌, ◌<◌}
use native.Mathlib.Nat.{le_trans, le_of_lt, le_of_eq, mul-le-mul_left, mul-le-mul_right, mul-add, add-mul, mul_comm, mul_assoc, one-mul, le-div_iff_mul-le, div-le_of_le-mul, div-mul-le_self, two-mul}
use native.Mathlib.Omega.{arith}
use lib.Count.{count_leading_zeros, leading_top}
use lib.Dec.{lit<}
use lib.Pow.{pow_mono, pow_pos, pow-add, shl_exact}
use Rattle.reckon.proofs.RootLaws.{square, cube}

-- ---- the powers of a + y, and what the line has there

square-line : (a : ℕ) {y : ℕ} → y ≤ a → (a + y) * (a + y) ≤ a * a + 3 * (y * a)
square-line a {y} le = omega (arith, add-mul a y (a + y), mul-add a a y, mul-add y a y, mul_comm a y, mul-le-mul_left y le)

cube_line : (a : ℕ) {y : ℕ} → y ≤ a → (a + y) * (a + y) * (a + y) ≤ a * a * a + 7 * (y * (a * a))
cube_line a {y} le =
    let line : ℕ = a * a + 3 * (y * a) in
    let e₁ : line * a ≡ a * a * a + 3 * (y * a * a) = add-mul (a * a) (3 * (y * a)) a ∙ ap (λ (x : ℕ). a * a * a + x) (mul_assoc 3 (y * a) a) in
    let e₂ : line * y ≡ a * a * y + 3 * (y * a * y) = add-mul (a * a) (3 * (y * a)) y ∙ ap (λ (x : ℕ). a * a * y + x) (mul_assoc 3 (y * a) y) in
    omega (
      arith,
      mul-le-mul_right (a + y) (square-line a le),
      mul-add line a y,
      e₁,
      e₂,
      mul-le-mul_left (y * a) le,
      mul_assoc y a a,
      mul_comm (a * a) y,
    )

-- ---- the number that stands at n on the line

line_square : {a q n : ℕ} → a ≤ q → q ≤ 4 * a → q * a ≤ n → ((2 * a + q) / 3) ^ 2 ≤ n
line_square {a} {q} {n} from to within =
    let y : ℕ = (2 * a + q) / 3 - a in
    let e : (2 * a + q) / 3 ≡ a + y = omega arith in
    let risen : a + 3 * y ≤ q = omega arith in
    rw (e, square (a + y))
    (omega (arith, square-line a {y = y} (omega arith), mul-le-mul_right a risen, add-mul a (3 * y) a, mul_assoc 3 y a, within))

line_cube : {a q n : ℕ} → a ≤ q → q ≤ 8 * a → q * (a * a) ≤ n → ((6 * a + q) / 7) ^ 3 ≤ n
line_cube {a} {q} {n} from to within =
    let y : ℕ = (6 * a + q) / 7 - a in
    let e : (6 * a + q) / 7 ≡ a + y = omega arith in
    let risen : a + 7 * y ≤ q = omega arith in
    rw (e, cube (a + y))
    (omega (arith, cube_line a {y = y} (omega arith), mul-le-mul_right (a * a) risen, add-mul a (7 * y) (a * a), mul_assoc 7 y (a * a), mul_assoc a a a, within))

-- ---- powers of two

pub top_is : {n z : ℕ} → 0 < n → n < 2 ^ 64 → z ≡ count_leading_zeros 64 n → (2 ^ (63 - z) ≤ n) × (n < 2 ^ (63 - z + 1)) × (63 - z < 64)
top_is {n} {z} pos small e =
    let top = leading_top 64 n pos small in
    let j : ℕ = top.0 in
    let same : 63 - z ≡ j = omega (arith, e, top.1) in
    let next : 63 - z + 1 ≡ suc j = omega (arith, e, top.1) in
    (subst (λ (x : ℕ). 2 ^ x ≤ n) (sym same) top.2, subst (λ (x : ℕ). n < 2 ^ x) (sym next) top.3, omega arith)

pub one_moved : {k : ℕ} → k < 64 → 1 * 2 ^ k % 2 ^ 64 ≡ 2 ^ k
one_moved {k} h = shl_exact 1 k 64 (lit< tt) (omega arith) ∙ one-mul (2 ^ k)

-- b is the power of two at the place of the highest digit over the root's power: it is below the root, and twice it is not
module _ (n j k : ℕ) {b : ℕ} (from : 2 ^ j ≤ n) (to : n < 2 ^ (j + 1)) (small : j < 64) (is : b ≡ 2 ^ k) where
  quotient_from : (s : ℕ) → k + s ≤ j → b ≤ n / 2 ^ s
  quotient_from s le =
      rw is ((le-div_iff_mul-le (pow_pos s)).1 (le_trans (le_of_eq (sym (pow-add 2 k s))) (le_trans (pow_mono le) from)))

  quotient_to : (m s : ℕ) → j < s + (m + k) → n / 2 ^ s ≤ 2 ^ m * b
  quotient_to m s lt =
      let e : 2 ^ (s + (m + k)) ≡ 2 ^ s * (2 ^ m * 2 ^ k) = pow-add 2 s (m + k) ∙ ap (λ (x : ℕ). 2 ^ s * x) (pow-add 2 m k) in
      rw is (div-le_of_le-mul (2 ^ s) (le_trans (le_of_lt to) (le_trans (pow_mono (omega arith)) (le_of_eq e))))

  below_to : (m : ℕ) → k ≤ m → b ≤ 2 ^ m
  below_to m le = rw is (pow_mono le)

  pub square_low : k ≡ j / 2 → ((2 * b + n / 2 ^ k) / 3) ^ 2 ≤ n
  square_low half =
      line_square (quotient_from k (omega (arith, half))) (quotient_to 2 k (omega (arith, half))) (rw is (div-mul-le_self n (2 ^ k)))

  pub square_fits : k ≡ j / 2 → 2 * b + n / 2 ^ k < 2 ^ 64
  square_fits half = omega (arith, below_to 31 (omega (arith, half, small)), quotient_to 2 k (omega (arith, half)))

  pub cube_low : k ≡ j / 3 → ((6 * b + n / 2 ^ (2 * k)) / 7) ^ 3 ≤ n
  cube_low third =
      let e : b * b ≡ 2 ^ (2 * k) = rw (is, two-mul k) (sym (pow-add 2 k k)) in
      line_cube (quotient_from (2 * k) (omega (arith, third))) (quotient_to 3 (2 * k) (omega (arith, third)))
      (rw e (div-mul-le_self n (2 ^ (2 * k))))

  pub cube_fits : k ≡ j / 3 → 6 * b + n / 2 ^ (2 * k) < 2 ^ 64
  cube_fits third = omega (arith, below_to 21 (omega (arith, third, small)), quotient_to 3 (2 * k) (omega (arith, third)))
