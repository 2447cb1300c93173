-- Laws of powers and roots, over any power: a root is the only one, is bounded by what its number is, and is what `root_of` computes.
-- Powers keep the order of their bases, so that comparing powers compares roots.
-- Assumes nothing.
use mathlib.Core.Path.{◌≡◌, refl, sym, ◌∙◌, ap, subst}
use mathlib.Core.Bool.{Bool, true, false}
use Prim.Native.Nat.{ℕ, zero, suc, ◌+◌, ◌*◌, ◌^◌, ◌≤◌, ◌<◌}
use native.Mathlib.Nat.{le_trans, lt_of_le_of_lt, lt_of_lt_of_le, lt_of_not-le, not-le_of_lt, le_refl, pow-le-pow_left, pow-le-pow_right, pow-suc, pow-zero, one-mul, mul-zero, one-le-pow, mul-le-mul, zero-lt-suc, add_assoc, two-pow-succ}
use native.Mathlib.Omega.{arith}
use lib.Dec.{leb}
use borrow.Author.Tests.{leb-true, leb-false}
use Rattle.reckon.specs.Tests.{pick}
use Rattle.reckon.specs.Roots.{Root, root_from, root_of}
use Rattle.reckon.specs.Inner.RootSearch.{SmallPower}

-- ---- powers

pub square : (x : ℕ) → x ^ 2 ≡ x * x
square x = rw (pow-suc x 1, pow-suc x 0, pow-zero, one-mul)

pub cube : (x : ℕ) → x ^ 3 ≡ x * x * x
cube x = rw (pow-suc x 2, pow-suc x 1, pow-suc x 0, pow-zero, one-mul)

le_pow : (x p : ℕ) → 0 < p → x ≤ x ^ p
le_pow zero p h = omega arith
le_pow (suc x) (suc p) h =
    rw (pow-suc (suc x) p) (le_trans (omega (arith, one-mul (suc x))) (mul-le-mul (one-le-pow p (suc x) (zero-lt-suc x)) (le_refl (suc x))))
le_pow (suc x) zero h = omega arith

-- a number is at most n where its power is
pub le_of_pow : {p n : ℕ} (x : ℕ) → SmallPower p → x ^ p ≤ n → x ≤ n
le_of_pow {p} x s h = le_trans (le_pow x p (omega (arith, s.two))) h

pub pow_cancel : (p : ℕ) {x y : ℕ} → x ^ p < y ^ p → x < y
pow_cancel p h = lt_of_not-le (λ g. not-le_of_lt h (pow-le-pow_left g p))

pub zero_pow : {p : ℕ} (n : ℕ) → SmallPower p → 0 ^ p ≤ n
zero_pow {p = zero} n s = omega (arith, s.two)
zero_pow {p = suc p} n s = rw (pow-suc 0 p, mul-zero) (omega arith)

-- the square is at most the power
pub square_le : {p : ℕ} (x : ℕ) → SmallPower p → x * x ≤ x ^ p
square_le zero s = omega arith
square_le {p} (suc x) s = subst (λ (y : ℕ). y ≤ suc x ^ p) (square (suc x)) (pow-le-pow_right (zero-lt-suc x) s.two)

-- a small power that is not 2 is 3
pub is_cube : {p : ℕ} (x : ℕ) → SmallPower p → (p ≡ 2 → ⊥) → x ^ p ≡ x * x * x
is_cube {p} x s h =
    let e : p ≡ 3 = omega (arith, s.two, s.three) in
    ap (λ (q : ℕ). x ^ q) e ∙ cube x

-- ---- roots

-- there is one root
pub root_unique : {p n r s : ℕ} → Root p n r → Root p n s → r ≡ s
root_unique {p} {n} {r} {s} a b =
    let x : r < s + 1 = pow_cancel p (lt_of_le_of_lt a.low b.high) in
    let y : s < r + 1 = pow_cancel p (lt_of_le_of_lt b.low a.high) in
    omega arith

-- a root is at most b where n is below the power of b + 1
pub root_le : {p n r : ℕ} (b : ℕ) → Root p n r → n < (b + 1) ^ p → r ≤ b
root_le {p} b a h =
    let x = pow_cancel p (lt_of_le_of_lt a.low h) in
    omega arith

-- a root is above b where the power of b + 1 is at most n
pub root_over : (p b : ℕ) {n r : ℕ} → Root p n r → (b + 1) ^ p ≤ n → b < r
root_over p b a h =
    let x = pow_cancel p (lt_of_le_of_lt h a.high) in
    omega arith

-- a number is at most the root where its power is at most n
pub root_least : {p n r : ℕ} (b : ℕ) → Root p n r → b ^ p ≤ n → b ≤ r
root_least {p} b a h =
    let x = pow_cancel p (lt_of_le_of_lt h a.high) in
    omega arith

-- .. and the root at most a number whose power is above n
pub root_most : {p n r : ℕ} (b : ℕ) → Root p n r → n < b ^ p → r ≤ b
root_most {p} b a h =
    let x = pow_cancel p (lt_of_le_of_lt a.low h) in
    omega arith

-- a greater number has no lesser root
pub root_mono : {p n m r s : ℕ} → Root p n r → Root p m s → n ≤ m → r ≤ s
root_mono {p} a b h =
    let x = pow_cancel p (lt_of_le_of_lt (le_trans a.low h) b.high) in
    omega arith

-- ---- the number that computes is the root

digits_right : (p n k r : ℕ) → r ^ p ≤ n → n < (r + 2 ^ k) ^ p → Root p n (root_from p n k r)
unfolding root_from pick
digits_right p n zero r l h = record { low = l; high = h }
digits_right p n (suc k) r l h = go (leb ((r + 2 ^ k) ^ p) n) refl (digits_right p n k)
  where
    go :
        (b : Bool) → leb ((r + 2 ^ k) ^ p) n ≡ b →
        ((s : ℕ) → s ^ p ≤ n → n < (s + 2 ^ k) ^ p → Root p n (root_from p n k s)) →
        Root p n (root_from p n k (pick b (r + 2 ^ k) r))
    go true e ih =
        ih (r + 2 ^ k) (leb-true _ _ e)
        (subst (λ (w : ℕ). n < w ^ p) (ap (λ (w : ℕ). r + w) (two-pow-succ k) ∙ sym (add_assoc r (2 ^ k) (2 ^ k))) h)
    go false e ih = ih r l (leb-false _ _ e)

pub root_right : (p n : ℕ) → 2 ≤ p → n < 2 ^ 64 → Root p n (root_of p n)
unfolding root_of
root_right p n two h = digits_right p n 32 0 (none p two) (lt_of_lt_of_le h (le_trans (omega arith) (pow-le-pow_right {n = 2 ^ 32} (omega arith) two)))
  where
    none : (q : ℕ) → 2 ≤ q → 0 ^ q ≤ n
    none zero t = omega arith
    none (suc q) t = rw (pow-suc 0 q, mul-zero) (omega arith)

pub root_is : {p n r : ℕ} → 2 ≤ p → n < 2 ^ 64 → Root p n r → r ≡ root_of p n
root_is {p} {n} two h a = root_unique a (root_right p n two h)
