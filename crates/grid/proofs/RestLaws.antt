-- Laws of the walk that takes the lowest set bit from a mask at each turn: that bit, the bits that rest, and what the columns passed keep.
-- Assumes nothing.
use mathlib.Core.Path.{◌≡◌, sym, ap, ◌∙◌}
use mathlib.Core.Bool.{true, false}
use Prim.Native.Nat.{ℕ, zero, suc, ◌+◌, ◌-◌, ◌*◌, ◌/◌, ◌%◌, ◌^◌, ◌≤◌, ◌<◌, min}
use native.Mathlib.Decide.{dec_lt, ℕ_discrete}
use native.Mathlib.Nat.{le_trans, pow-suc, mod-lt, zero-div, div-one, div-eq_of_lt}
use native.Mathlib.Omega.{arith}
use lib.Bits.{bit_and, and_step, and_self}
use lib.Count.{count_trailing_zeros, trailing_le}
use lib.Dec.{eqb}
use lib.Pow.{pow_pos, pow_mono, shl-shr, field, mod-mod-pow}
use Rattle.reckon.proofs.TestLaws.{not_both}
use Rattle.grid.specs.Masks.{bits, bit_at}
use Rattle.grid.specs.Walks.{next_within, within_row, lowest_set, without_lowest}
use Rattle.grid.specs.Inner.Visits.{Passes, Visits, Rests}
use Rattle.grid.proofs.MaskLaws.{bit_low, bit_high}
use Rattle.grid.proofs.WalkLaws.{next_by_zeros, next-set, within_from, within_passes, within-set, walk_visits, walk_ends}

-- ---- the lowest set bit

pub zero_bit : (k : ℕ) → bit_at 0 k ≡ false
unfolding bit_at
zero_bit k = rw (zero-div (2 ^ k))

-- the lowest set column is where the zeros end
pub lowest_zeros : (mask : ℕ) → lowest_set mask ≡ count_trailing_zeros bits mask
lowest_zeros mask = omega (arith, next_by_zeros mask 0 (omega arith), ap (count_trailing_zeros bits) (div-one mask), trailing_le bits mask)

-- a number is even or odd, and so go its halves
either : (x : ℕ) {A : Type 0} → (x % 2 ≡ 0 → A) → (x % 2 ≡ 1 → A) → A
either x {A} f g = go (ℕ_discrete (x % 2) 0)
  where
    go : Dec (x % 2 ≡ 0) → A
    go (yes e) = f e
    go (no e) = g (omega (arith, e))

zeros_even : (d x : ℕ) → x % 2 ≡ 0 → count_trailing_zeros (suc d) x ≡ suc (count_trailing_zeros d (x / 2))
unfolding count_trailing_zeros
zeros_even d x e = rw e

zeros_odd : (d x : ℕ) → x % 2 ≡ 1 → count_trailing_zeros (suc d) x ≡ 0
unfolding count_trailing_zeros
zeros_odd d x e = rw e

half_below : (d : ℕ) {x : ℕ} → x < 2 ^ suc d → x / 2 < 2 ^ d
half_below d l = omega (arith, l, pow-suc 2 d)

-- a number with a digit set among its d lowest
trailing_below : (d x : ℕ) → 0 < x → x < 2 ^ d → count_trailing_zeros d x < d
trailing_below zero x h l = absurd (omega (arith, l))
trailing_below (suc d) x h l =
    either x (λ e. omega (arith, zeros_even d x e, trailing_below d (x / 2) (omega (arith, e)) (half_below d l))) (λ e. omega (arith, zeros_odd d x e))

lowest_below : (mask : ℕ) → 0 < mask → mask < 2 ^ bits → lowest_set mask < bits
lowest_below mask h l = omega (arith, lowest_zeros mask, trailing_below bits mask h l)

-- twice a number: its bits one place higher
double_low : (y : ℕ) → bit_at (y * 2) 0 ≡ false
double_low y = bit_low (y * 2) ∙ ap (λ (z : ℕ). eqb z 1) (let e : y * 2 % 2 ≡ 0 = omega arith in e)

double_high : (y k : ℕ) → bit_at (y * 2) (suc k) ≡ bit_at y k
double_high y k = bit_high (y * 2) k ∙ ap (λ (z : ℕ). bit_at z k) (let e : y * 2 / 2 ≡ y = omega arith in e)

-- a number without the lowest set one of its d digits, by its half
abbrev less : ℕ → ℕ → ℕ
less d x = x - 2 ^ count_trailing_zeros d x

less_even : (d x : ℕ) → x % 2 ≡ 0 → less (suc d) x ≡ less d (x / 2) * 2
less_even d x e =
    ap (λ (k : ℕ). x - 2 ^ k) (zeros_even d x e) ∙ omega (arith, e, pow-suc 2 (count_trailing_zeros d (x / 2)))

less_odd : (d x : ℕ) → x % 2 ≡ 1 → less (suc d) x ≡ x / 2 * 2
less_odd d x e = ap (λ (k : ℕ). x - 2 ^ k) (zeros_odd d x e) ∙ omega (arith, e)

-- as the code does it
and_halves : (x : ℕ) {half : ℕ} → (x - 1) / 2 ≡ half → min (x % 2) ((x - 1) % 2) ≡ 0 → bit_and x (x - 1) ≡ bit_and (x / 2) half * 2
and_halves x {half} e z =
    and_step x (x - 1) ∙ (ap (λ (k : ℕ). bit_and (x / 2) k * 2 + min (x % 2) ((x - 1) % 2)) e ∙ omega (arith, z))

and_less : (d x : ℕ) → 0 < x → x < 2 ^ d → bit_and x (x - 1) ≡ less d x
and_less zero x h l = absurd (omega (arith, l))
and_less (suc d) x h l =
    either x
    (λ e.
    and_halves x {half = x / 2 - 1} (omega (arith, e)) (omega (arith, e))
    ∙ (ap (λ (y : ℕ). y * 2) (and_less d (x / 2) (omega (arith, e)) (half_below d l)) ∙ sym (less_even d x e)))
    (λ e. and_halves x {half = x / 2} (omega (arith, e)) (omega (arith, e)) ∙ (ap (λ (y : ℕ). y * 2) (and_self (x / 2)) ∙ sym (less_odd d x e)))

-- no bit up to the lowest set one is left, and those above it are as they were
less_low : (d x k : ℕ) → 0 < x → x < 2 ^ d → k ≤ count_trailing_zeros d x → bit_at (less d x) k ≡ false
less_low zero x k h l g = absurd (omega (arith, l))
less_low (suc d) x zero h l g =
    either x (λ e. ap (λ (y : ℕ). bit_at y 0) (less_even d x e) ∙ double_low (less d (x / 2)))
    (λ e. ap (λ (y : ℕ). bit_at y 0) (less_odd d x e) ∙ double_low (x / 2))
less_low (suc d) x (suc k) h l g =
    either x
    (λ e.
    ap (λ (y : ℕ). bit_at y (suc k)) (less_even d x e)
    ∙ (double_high (less d (x / 2)) k ∙ less_low d (x / 2) k (omega (arith, e)) (half_below d l) (omega (arith, g, zeros_even d x e))))
    (λ e. absurd (omega (arith, g, zeros_odd d x e)))

less_high : (d x k : ℕ) → 0 < x → x < 2 ^ d → count_trailing_zeros d x < k → bit_at (less d x) k ≡ bit_at x k
less_high zero x k h l g = absurd (omega (arith, l))
less_high (suc d) x zero h l g = absurd (omega (arith, g))
less_high (suc d) x (suc k) h l g =
    either x
    (λ e.
    ap (λ (y : ℕ). bit_at y (suc k)) (less_even d x e)
    ∙ (double_high (less d (x / 2)) k ∙ less_high d (x / 2) k (omega (arith, e)) (half_below d l) (omega (arith, g, zeros_even d x e))))
    (λ e. ap (λ (y : ℕ). bit_at y (suc k)) (less_odd d x e) ∙ double_high (x / 2) k)
    ∙ sym (bit_high x k)

module _ (mask : ℕ) where
  less_is : less bits mask ≡ without_lowest mask
  less_is = ap (λ (k : ℕ). mask - 2 ^ k) (sym (lowest_zeros mask))

  pub without_by_and : 0 < mask → mask < 2 ^ bits → bit_and mask (mask - 1) ≡ without_lowest mask
  without_by_and h l = and_less bits mask h l ∙ less_is

  cleared_low : (k : ℕ) → 0 < mask → mask < 2 ^ bits → k ≤ lowest_set mask → bit_at (without_lowest mask) k ≡ false
  cleared_low k h l g = ap (λ (y : ℕ). bit_at y k) (sym less_is) ∙ less_low bits mask k h l (omega (arith, g, lowest_zeros mask))

  cleared_high : (k : ℕ) → 0 < mask → mask < 2 ^ bits → lowest_set mask < k → bit_at (without_lowest mask) k ≡ bit_at mask k
  cleared_high k h l g = ap (λ (y : ℕ). bit_at y k) (sym less_is) ∙ less_high bits mask k h l (omega (arith, g, lowest_zeros mask))

-- ---- the columns that a row has

module _ (mask columns : ℕ) where
  -- as the code does it: moved out beyond the 64 bits, and back
  pub within_by_shifts : (beyond : ℕ) → columns + beyond ≡ bits → mask * 2 ^ beyond % 2 ^ bits / 2 ^ beyond ≡ within_row mask columns
  within_by_shifts beyond e =
      ap (λ (k : ℕ). mask * 2 ^ beyond % 2 ^ k / 2 ^ beyond) (sym e)
      ∙ (field (mask * 2 ^ beyond) columns beyond ∙ ap (λ (x : ℕ). x % 2 ^ columns) (shl-shr mask beyond))

  cut_same : (k : ℕ) → k < columns → bit_at (within_row mask columns) k ≡ bit_at mask k
  unfolding bit_at
  cut_same k l =
      let j = columns - k - 1 in
      let parts : columns ≡ j + 1 + k = omega arith in
      ap (λ (x : ℕ). eqb x 1)
      (ap (λ (n : ℕ). mask % 2 ^ n / 2 ^ k % 2) parts ∙ (ap (λ (x : ℕ). x % 2) (field mask (j + 1) k) ∙ mod-mod-pow (mask / 2 ^ k) j 1))

  cut_beyond : (k : ℕ) → columns ≤ k → bit_at (within_row mask columns) k ≡ false
  unfolding bit_at
  cut_beyond k l =
      let none : within_row mask columns / 2 ^ k ≡ 0 =
      div-eq_of_lt (le_trans (mod-lt mask (pow_pos columns)) (pow_mono l)) in
      rw none

-- ---- the walk

-- the only column that is set, or the row's end, with none set before it
within_only :
    (mask c columns : ℕ) {n : ℕ} → columns ≤ bits → c ≤ n → n ≤ columns → ((k : ℕ) → c ≤ k → k < n → bit_at mask k ≡ false) →
    (n < columns → bit_at mask n ≡ true) → n ≡ next_within mask c columns
within_only mask c columns {n} high h l clear set = go (dec_lt next n) (dec_lt n next)
  where
    next : ℕ
    next = next_within mask c columns

    go : Dec (next < n) → Dec (n < next) → n ≡ next
    go (yes a) b =
        not_both (within-set mask c columns high (omega arith)) (clear next (within_from mask c columns (omega arith)) a)
    go (no a) (yes b) = not_both (set (omega arith)) (within_passes mask c columns n h b)
    go (no a) (no b) = omega arith

module _ {mask columns rest : ℕ} {holds : ℕ → Type 0} (r : Rests mask columns holds rest) (high : columns ≤ bits) where
  rest_next : next_within mask r.from columns ≡ next_within rest 0 columns
  rest_next =
      within_only rest 0 columns high (omega arith) (omega arith) (λ k a b. go k b (dec_lt k r.from))
      (λ l. r.same next (within_from mask r.from columns r.within) l ∙ within-set mask r.from columns high l)
    where
      next : ℕ
      next = next_within mask r.from columns

      go : (k : ℕ) → k < next → Dec (k < r.from) → bit_at rest k ≡ false
      go k b (yes a) = r.before k a
      go k b (no a) = r.same k (omega arith) (omega (arith, b)) ∙ within_passes mask r.from columns k (omega arith) b

  -- a column at which a turn is made
  module _ (some : rest ≡ 0 → ⊥) {column : ℕ} (e : column ≡ lowest_set rest) where
    abbrev low : lowest_set rest < bits
    low = lowest_below rest (omega (arith, some)) r.small

    pub walk_within : column < columns
    walk_within = go (dec_lt column columns)
      where
        go : Dec (column < columns) → column < columns
        go (yes l) = l
        go (no l) = not_both (ap (bit_at rest) e ∙ next-set rest 0 low) (r.beyond column (omega arith))

    pub walk_turn : Passes mask columns holds → Visits mask columns holds column
    walk_turn passes =
        walk_visits passes high r.from r.within (let z : column ≡ next_within rest 0 columns = omega (arith, e, walk_within) in z ∙ sym rest_next) r.held

    -- what holds after it holds of what rests without it
    pub walk_on : {next : ℕ} {holds' : ℕ → Type 0} → next ≡ without_lowest rest → holds' (column + 1) → Rests mask columns holds' next
    walk_on {next} {holds'} n h =
        record {
          from = column + 1;
          within = omega (arith, walk_within);
          held = h;
          small = omega (arith, n, r.small);
          before = λ k l. ap (λ (x : ℕ). bit_at x k) n ∙ cleared_low rest k positive r.small (omega (arith, e, l));
          same = λ k l g. high_same k (omega arith) ∙ r.same k (omega (arith, from_low, l)) g;
          beyond = λ k l. high_same k (omega (arith, walk_within)) ∙ r.beyond k l;
        }
      where
        positive : 0 < rest
        positive = omega (arith, some)

        high_same : (k : ℕ) → column < k → bit_at next k ≡ bit_at rest k
        high_same k l = ap (λ (x : ℕ). bit_at x k) n ∙ cleared_high rest k positive r.small (omega (arith, e, l))

        from_low : r.from ≤ column
        from_low = omega (arith, walk_within, e, rest_next, within_from mask r.from columns r.within)

  -- at the end it holds of all columns
  pub walk_over : rest ≡ 0 → Passes mask columns holds → holds columns
  walk_over e passes =
      walk_ends (walk_visits passes high r.from r.within (over ∙ sym rest_next) r.held) (omega arith)
    where
      over : columns ≡ next_within rest 0 columns
      over = within_only rest 0 columns high (omega arith) (omega arith) (λ k a b. ap (λ (x : ℕ). bit_at x k) e ∙ zero_bit k) (λ l. absurd (omega arith))

pub walk_begins :
    {mask columns rest : ℕ} {holds : ℕ → Type 0} → columns ≤ bits → rest ≡ within_row mask columns → holds 0 → Rests mask columns holds rest
walk_begins {mask} {columns} high e h =
    record {
      from = 0;
      within = omega arith;
      held = h;
      small = omega (arith, e, mod-lt mask (pow_pos columns), pow_mono high);
      before = λ k l. absurd (omega arith);
      same = λ k l g. ap (λ (x : ℕ). bit_at x k) e ∙ cut_same mask columns k g;
      beyond = λ k l. ap (λ (x : ℕ). bit_at x k) e ∙ cut_beyond mask columns k l;
    }

-- and after each turn less rests
pub walk_less : {rest next : ℕ} → (rest ≡ 0 → ⊥) → next ≡ without_lowest rest → next < rest
walk_less {rest} some e = omega (arith, e, some, pow_pos (lowest_set rest))
