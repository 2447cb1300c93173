-- Laws of a root's places, the powers of ten: one place up and one down, that what the search forms with them fits, and where it begins.
-- Assumes nothing.
use mathlib.Core.Path.{◌≡◌, refl, sym, ◌∙◌, ap, subst}
use Prim.Native.Nat.{ℕ, zero, suc, ◌+◌, ◌*◌, ◌/◌, ◌^◌, ◌≤◌, ◌<◌}
use native.Mathlib.Nat.{le_trans, lt_of_le_of_lt, lt_of_lt_of_le, lt_of_not-le, not-le_of_lt, lt_irrefl, pow-le-pow_left, pow-le-pow_right, pow-suc, pow-zero, one-le-pow, mul-suc, mul-zero, mul-div_cancel, div-le_self, zero-add}
use native.Mathlib.Decide.{ℕ_discrete}
use native.Mathlib.Omega.{arith}
use lib.Pow.{pow-add}
use Rattle.reckon.specs.Inner.RootSearch.{SmallPower, Asked, PowerOfTen, Place, Above, Raised}
use Rattle.reckon.proofs.RootLaws.{pow_cancel, zero_pow}

-- what holds of squares and of cubes holds of every small power
each_power : {p : ℕ} (P : ℕ → Type 0) → SmallPower p → P 2 → P 3 → P p
each_power {p} P s squares cubes = go (ℕ_discrete p 2)
  where
    go : Dec (p ≡ 2) → P p
    go (yes e) = subst P (sym e) squares
    go (no d) =
        let e : 3 ≡ p = omega (arith, s.two, s.three) in
        subst P e cubes

pub squares : SmallPower 2
squares = record { two = omega arith; three = omega arith }

pub cubes : SmallPower 3
cubes = record { two = omega arith; three = omega arith }

-- ---- powers of ten

pub ten_pos : {place : ℕ} → PowerOfTen place → 0 < place
ten_pos t = subst (λ (x : ℕ). 0 < x) (sym t.1) (one-le-pow t.0 10 (omega arith))

ten_down : {place : ℕ} → PowerOfTen place → 1 < place → PowerOfTen (place / 10)
ten_down {place} t h = go t.0 t.1
  where
    go : (k : ℕ) → place ≡ 10 ^ k → PowerOfTen (place / 10)
    go zero e = absurd (lt_irrefl 1 (subst (λ (x : ℕ). 1 < x) (e ∙ pow-zero 10) h))
    go (suc k) e = (k, ap (λ (x : ℕ). x / 10) (e ∙ pow-suc 10 k) ∙ mul-div_cancel (10 ^ k) (omega arith))

power_of_ten : (k p : ℕ) → (10 ^ k) ^ p ≡ 10 ^ (k * p)
power_of_ten k zero = rw (mul-zero k, pow-zero (10 ^ k), pow-zero 10)
power_of_ten k (suc p) = rw (pow-suc (10 ^ k) p, power_of_ten k p, mul-suc k p) (sym (pow-add 10 (k * p) k))

-- ---- places

pub ones : {p : ℕ} → SmallPower p → Place p 1
ones s = record { tens = (0, refl); most = each_power (λ (q : ℕ). 1 ^ q ≤ 10 ^ 18) s (omega arith) (omega arith) }

pub place_down : {p place : ℕ} → Place p place → 1 < place → Place p (place / 10)
place_down {p} {place} t h =
    record { tens = ten_down t.tens h; most = le_trans (pow-le-pow_left (div-le_self place 10) p) t.most }

-- the zeros of 10 ^ 18 part evenly, by twos and by threes, so no place steps over the highest
parts_evenly : {p : ℕ} (k : ℕ) → SmallPower p → k * p < 18 → suc k * p ≤ 18
parts_evenly k s = each_power (λ (q : ℕ). k * q < 18 → suc k * q ≤ 18) s (λ h. omega arith) (λ h. omega arith)

-- a place whose power is at most n has a place above it
pub place_up : {p n place : ℕ} → Asked p n → Place p place → place ^ p ≤ n → Place p (place * 10)
place_up {p} {n} {place} a t h =
    let k : ℕ = t.tens.0 in
    let up : place * 10 ≡ 10 ^ suc k = ap (λ (x : ℕ). x * 10) t.tens.1 ∙ sym (pow-suc 10 k) in
    let below : 10 ^ (k * p) < 10 ^ 18 = subst (λ (x : ℕ). x < 10 ^ 18) (ap (λ (x : ℕ). x ^ p) t.tens.1 ∙ power_of_ten k p) (omega (arith, a.small)) in
    let few : k * p < 18 = lt_of_not-le (λ m. not-le_of_lt below (pow-le-pow_right {n = 10} (omega arith) m)) in
    record {
      tens = (suc k, up);
      most =
          subst (λ (x : ℕ). x ≤ 10 ^ 18) (sym (ap (λ (x : ℕ). x ^ p) up ∙ power_of_ten (suc k) p))
          (pow-le-pow_right {n = 10} (omega arith) (parts_evenly k a.power few));
    }

-- a power of ten below a place is one
pub place_below : {p place above : ℕ} → Place p above → PowerOfTen place → place < above → Place p place
place_below {p} t tens h = record { tens = tens; most = le_trans (pow-le-pow_left (omega arith) p) t.most }

-- a power of ten is above the root of n where its own power is above n
pub above_at : (k : ℕ) {p n : ℕ} → (10 ^ k) ^ p ≤ 10 ^ 18 → n < (10 ^ k) ^ p → Above p n (10 ^ k)
above_at k most beyond = record { place = record { tens = (k, refl); most = most }; beyond = beyond }

-- ---- what the search forms fits

-- no number whose power is at most 10 ^ 18 is above top, and the power of twice top still fits
record Top (p top : ℕ) : Type 0 where
  over : 10 ^ 18 < (top + 1) ^ p
  twice : (top + top) ^ p < 2 ^ 64

top_of : {p : ℕ} → SmallPower p → (top : ℕ) × Top p top
top_of s =
    each_power (λ (q : ℕ). (top : ℕ) × Top q top) s
    (10 ^ 9, record { over = omega arith; twice = omega arith })
    (10 ^ 6, record { over = omega arith; twice = omega arith })

sum_fits : {p : ℕ} (a b : ℕ) → SmallPower p → a ^ p ≤ 10 ^ 18 → b ^ p ≤ 10 ^ 18 → (a + b) ^ p < 2 ^ 64
sum_fits {p} a b s h g =
    let t = top_of s in
    let x : a < t.0 + 1 = pow_cancel p (lt_of_le_of_lt h t.1.over) in
    let y : b < t.0 + 1 = pow_cancel p (lt_of_le_of_lt g t.1.over) in
    lt_of_le_of_lt (pow-le-pow_left (omega arith) p) t.1.twice

-- what is tried: the root so far raised by a place
pub trial_fits : {p n : ℕ} (place root : ℕ) → Asked p n → Place p place → root ^ p ≤ n → (root + place) ^ p < 2 ^ 64
trial_fits place root a t h = sum_fits root place a.power (omega (arith, a.small)) t.most

-- ---- the search from its first place to its last

-- above the highest digit nothing is raised yet
pub none_raised : {p n place : ℕ} → Asked p n → n < place ^ p → Raised p n place 0
none_raised {p} {n} a h = record { fits = zero_pow n a.power; full = rw zero-add h }

-- at a place above the root's places there is no digit to raise
pub no_digit : {p n place above root : ℕ} → Above p n above → above ≤ place → root ^ p ≤ n → Raised p n place root
no_digit {p} a h fits = record { fits = fits; full = lt_of_lt_of_le a.beyond (pow-le-pow_left (omega arith) p) }
