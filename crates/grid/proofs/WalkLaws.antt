-- Laws of the walk over a mask: from one set column to the next, where those passed keep what holds.
-- Assumes nothing.
use mathlib.Core.Path.{◌≡◌, refl, sym, ap, ap₂, ◌∙◌, subst}
use mathlib.Core.Bool.{Bool, true, false, not}
use Prim.Native.Nat.{ℕ, zero, suc, ◌+◌, ◌-◌, ◌*◌, ◌/◌, ◌%◌, ◌^◌, ◌≤◌, ◌<◌, min}
use native.Mathlib.Decide.{dec_lt}
use native.Mathlib.Nat.{div-div-eq-div-mul}
use native.Mathlib.Omega.{arith}
use lib.Dec.{eqb}
use lib.Count.{count_trailing_zeros, under}
use lib.Pow.{pow-add}
use borrow.Author.Tests.{not-false, not-true}
use Rattle.reckon.specs.Tests.{pick, first_failing}
use Rattle.reckon.proofs.TestLaws.{pick_true, pick_false, failing_le, failing_at, failing_none, failing_before, failing_fails}
use Rattle.grid.specs.declared.squares.Shape.{Shape}
use Rattle.grid.specs.Squares.{squares}
use Rattle.grid.specs.Masks.{bits, bit_at, next_set}
use Rattle.grid.specs.Inner.Visits.{Passes, Visits}
use Rattle.grid.specs.Walks.{next_within}
use Rattle.grid.proofs.MaskLaws.{bit_low, bit_high, bit_shifted}
use Rattle.grid.proofs.SquareLaws.{row_fits, row_of, column_of}

-- ---- the next set column

-- zeros below the lowest set bit are the columns passed before the first set one
zeros_first : (d x : ℕ) → count_trailing_zeros d x ≡ first_failing d (λ k. not (bit_at x k))
unfolding count_trailing_zeros first_failing
zeros_first zero x = refl
zeros_first (suc d) x = go (x % 2) refl (zeros_first d (x / 2) ∙ sym (λ j. first_failing d (λ k. not (bit_high x k j))))
  where
    go :
        (r : ℕ) → x % 2 ≡ r → count_trailing_zeros d (x / 2) ≡ first_failing d (λ k. not (bit_at x (suc k))) →
        under (x % 2) (count_trailing_zeros d (x / 2)) ≡ pick (not (bit_at x 0)) (suc (first_failing d (λ k. not (bit_at x (suc k))))) zero
    go zero e ih =
        let clear : bit_at x 0 ≡ false = bit_low x ∙ ap (λ (y : ℕ). eqb y 1) e in
        rw e (ap suc ih ∙ sym (pick_true _ _ (ap not clear)))
    go (suc r) e ih =
        let one : x % 2 ≡ 1 = omega arith in
        let set : bit_at x 0 ≡ true = bit_low x ∙ ap (λ (y : ℕ). eqb y 1) one in
        rw one (sym (pick_false _ _ (ap not set)))

-- the first failing one below m, from the first below a larger n
failing_fewer : (m n : ℕ) (f : ℕ → Bool) → m ≤ n → first_failing m f ≡ min (first_failing n f) m
failing_fewer m n f h = go (dec_lt (first_failing n f) m)
  where
    go : Dec (first_failing n f < m) → first_failing m f ≡ min (first_failing n f) m
    go (yes l) = omega (arith, failing_at m f (first_failing n f) l (failing_before n f) (failing_fails n f (omega arith)))
    go (no l) = omega (arith, failing_none m f (λ k g. failing_before n f k (omega arith)))

module _ (mask c : ℕ) where
  abbrev ahead : ℕ → Bool
  ahead k = not (bit_at mask (c + k))

  zeros_ahead : first_failing bits ahead ≡ count_trailing_zeros bits (mask / 2 ^ c)
  zeros_ahead = (λ j. first_failing bits (λ k. not (bit_shifted mask c k j))) ∙ sym (zeros_first bits (mask / 2 ^ c))

  -- it is where the zeros end, held to 64
  pub next_by_zeros : c ≤ bits → next_set mask c ≡ min (c + count_trailing_zeros bits (mask / 2 ^ c)) bits
  unfolding next_set
  next_by_zeros h =
      omega (arith, failing_fewer (bits - c) bits ahead (omega arith), zeros_ahead)

  pub next_past : c ≡ bits → bits ≡ next_set mask c
  unfolding next_set
  next_past e = omega (arith, failing_le (bits - c) ahead)

  pub next_from : c ≤ next_set mask c
  unfolding next_set
  next_from = omega arith

  -- it is set, and those that it passes are not
  pub next-set : next_set mask c < bits → bit_at mask (next_set mask c) ≡ true
  unfolding next_set
  next-set h = not-false _ (failing_fails (bits - c) ahead (omega arith))

  pub next_passes : (k : ℕ) → c ≤ k → k < next_set mask c → bit_at mask k ≡ false
  unfolding next_set
  next_passes k h l =
      subst (λ (j : ℕ). bit_at mask j ≡ false) (let e : c + (k - c) ≡ k = omega arith in e)
      (not-true _ (failing_before (bits - c) ahead (k - c) (omega arith)))

-- the same in a row of so many columns
module _ (mask c columns : ℕ) where
  pub within_from : c ≤ columns → c ≤ next_within mask c columns
  within_from h = omega (arith, next_from mask c)

  pub within_passes : (k : ℕ) → c ≤ k → k < next_within mask c columns → bit_at mask k ≡ false
  within_passes k h l = next_passes mask c k h (omega (arith, l))

  pub within-set : columns ≤ bits → next_within mask c columns < columns → bit_at mask (next_within mask c columns) ≡ true
  within-set h l =
      let e : next_within mask c columns ≡ next_set mask c = omega (arith, l) in
      ap (bit_at mask) e ∙ next-set mask c (omega (arith, l))

  -- after a column: the zeros of the mask moved beyond it, held to the columns
  pub after_by_zeros : c < columns → columns ≤ bits → {n : ℕ} → n ≡ c + 1 + count_trailing_zeros bits (mask / 2 ^ c / 2 ^ 1) → min n columns ≡ next_within mask (c + 1) columns
  after_by_zeros h l e =
      let moved : count_trailing_zeros bits (mask / 2 ^ c / 2 ^ 1) ≡ count_trailing_zeros bits (mask / 2 ^ (c + 1)) =
      ap (count_trailing_zeros bits) (div-div-eq-div-mul mask (2 ^ c) (2 ^ 1) ∙ ap (λ (y : ℕ). mask / y) (sym (pow-add 2 c 1))) in
      omega (arith, e, moved, next_by_zeros mask (c + 1) (omega arith))

-- ---- the walk

passes_on :
    (mask columns : ℕ) {holds : ℕ → Type 0} → Passes mask columns holds → (c d : ℕ) → c + d ≤ next_within mask c columns → holds c → holds (c + d)
passes_on mask columns {holds} passes c zero l h = subst holds (let e : c ≡ c + 0 = omega arith in e) h
passes_on mask columns {holds} passes c (suc d) l h =
    subst holds (let e : c + d + 1 ≡ c + suc d = omega arith in e)
    (passes (c + d) (omega (arith, l)) (within_passes mask c columns (c + d) (omega arith) (omega (arith, l)))
    (passes_on mask columns passes c d (omega arith) h))

-- what holds of the columns before one, and is kept by each that is passed, holds where the walk comes to next
pub walk_visits :
    {mask columns next : ℕ} {holds : ℕ → Type 0} → Passes mask columns holds → columns ≤ bits → (c : ℕ) → c ≤ columns → next ≡ next_within mask c columns →
    holds c → Visits mask columns holds next
walk_visits {mask} {columns} {next} {holds} passes high c l e h =
    let from : c ≤ next = omega (arith, e, within_from mask c columns l) in
    record {
      within = omega (arith, e);
      visited = λ k. ap (bit_at mask) e ∙ within-set mask c columns high (omega (arith, e, k));
      held = subst holds (let z : c + (next - c) ≡ next = omega arith in z) (passes_on mask columns passes c (next - c) (omega (arith, e, from)) h);
    }

-- at the end it holds of all columns
pub walk_ends : {mask columns c : ℕ} {holds : ℕ → Type 0} → Visits mask columns holds c → columns ≤ c → holds columns
walk_ends {columns = columns} {c} {holds} v h = subst holds (let e : c ≡ columns = omega (arith, v.within) in e) v.held

-- and after each column the end is nearer
pub walk_nearer : (mask : ℕ) {columns c next : ℕ} → c < columns → next ≡ next_within mask (c + 1) columns → columns - next < columns - c
walk_nearer mask {columns} {c} h e = omega (arith, e, h, within_from mask (c + 1) columns (omega arith))

-- ---- a row among all rows

-- a square's bit in the masks of all rows is its column's in its own row's
module _ (s : Shape) (row : ℕ) {first : ℕ} (e : first ≡ row * s.columns) (masks : ℕ → ℕ) where
  pub bit_in_row :
      {column : ℕ} → column < s.columns → bit_at (masks ((first + column) / s.columns)) ((first + column) % s.columns) ≡ bit_at (masks row) column
  bit_in_row {column} l =
      ap (λ (k : ℕ). bit_at (masks ((k + column) / s.columns)) ((k + column) % s.columns)) e
      ∙ ap₂ (λ (r c : ℕ). bit_at (masks r) c) (row_of s row l) (column_of s row l)

  -- so what holds of all squares with one bit holds of such columns of a row
  pub by_row :
      (holds : ℕ → Type 0) {mask : ℕ} {b : Bool} → row < s.rows → mask ≡ masks row →
      ((i : ℕ) → i < squares s → bit_at (masks (i / s.columns)) (i % s.columns) ≡ b → holds i) →
      (column : ℕ) → column < s.columns → bit_at mask column ≡ b → holds (first + column)
  by_row holds h m f column l c =
      f (first + column) (omega (arith, row_fits s h, e, l)) (bit_in_row l ∙ (ap (λ (x : ℕ). bit_at x column) (sym m) ∙ c))
