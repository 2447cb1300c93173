-- Laws of squares: a side with a square leads there and back, a side without one is on the rim, a walk carries the column.
-- Assumes nothing.
use mathlib.Core.Path.{◌≡◌, refl, sym, ap, ◌∙◌}
use mathlib.Core.Bool.{true, false}
use Prim.Native.Nat.{ℕ, zero, suc, ◌+◌, ◌-◌, ◌*◌, ◌/◌, ◌%◌, ◌≤◌, ◌<◌}
use native.Mathlib.Nat.{mul-le-mul, mul-le-mul_right, suc-mul, zero-mod, mod-lt, mod_self, mod-eq_of_lt, mod-add-mod, mul-mod_left, div-add-mod', mul-add-mod_self_right, mul-add-div_right, div-eq_of_lt, add-zero, zero-mul}
use native.Mathlib.Decide.{dec_le, dec_lt, ℕ_discrete}
use native.Mathlib.Omega.{arith}
use lib.Dec.{ltb}
use borrow.Author.Tests.{not-false, ltb-true, leb-true, le-leb, lt-leb, lt-ltb, le-ltb, eq-eqb, ne_eqb}
use Rattle.reckon.proofs.TestLaws.{pick_true, pick_false, every_each, each_every, all_at, all_of, all_fails}
use Rattle.grid.specs.declared.squares.Shape.{Shape}
use Rattle.grid.specs.Inner.Rows.{InRow, AtRow}
use Rattle.grid.specs.Squares.{most_along, most_squares, north, east, south, west, sides, squares, square_at, beside, opposite, on_rim, shape_fine, ShapeInRange, OnSquare, NextColumn}

-- ---- the shape

pub few_squares : (s : Shape) → s.rows ≤ most_along → s.columns ≤ most_along → squares s ≤ most_squares
few_squares s h g = omega (arith, mul-le-mul h g)

pub fine-shape : (s : Shape) → 1 ≤ s.rows → s.rows ≤ most_along → 1 ≤ s.columns → s.columns ≤ most_along → ShapeInRange s
fine-shape s a b c d = record { rows_low = a; rows_high = b; columns_low = c; columns_high = d; few = few_squares s b d }

pub ranges_of_fine : (s : Shape) → shape_fine s ≡ true → ShapeInRange s
unfolding shape_fine
ranges_of_fine s e =
    let p = every_each _ e in
    fine-shape s (leb-true _ _ p.0) (leb-true _ _ p.1.0) (leb-true _ _ p.1.1.0) (leb-true _ _ p.1.1.1.0)

pub fine_of_ranges : (s : Shape) → ShapeInRange s → shape_fine s ≡ true
unfolding shape_fine
fine_of_ranges s f =
    each_every _
    (le-leb _ _ f.rows_low, (le-leb _ _ f.rows_high, (le-leb _ _ f.columns_low, (le-leb _ _ f.columns_high, tt))))

-- ---- rows and columns

module _ (s : Shape) where
  -- a whole row is on the grid
  pub row_fits : {row : ℕ} → row < s.rows → row * s.columns + s.columns ≤ squares s
  row_fits {row} h = omega (arith, suc-mul row s.columns, mul-le-mul_right s.columns h)

  pub square_within : {row column : ℕ} → row < s.rows → column < s.columns → square_at s row column < squares s
  square_within h g = omega (arith, row_fits h)

  pub row_of : (row : ℕ) {column : ℕ} → column < s.columns → square_at s row column / s.columns ≡ row
  row_of row {column} h =
      mul-add-div_right (omega arith) row column ∙ (ap (λ (k : ℕ). row + k) (div-eq_of_lt h) ∙ add-zero row)

  pub column_of : (row : ℕ) {column : ℕ} → column < s.columns → square_at s row column % s.columns ≡ column
  column_of row {column} h = mul-add-mod_self_right row s.columns column ∙ mod-eq_of_lt h

  -- a square is in its row and column
  pub square_in : (i : ℕ) → square_at s (i / s.columns) (i % s.columns) ≡ i
  square_in i = div-add-mod' i s.columns

  pub column-within : (i : ℕ) {column : ℕ} → 0 < s.columns → column ≡ i % s.columns → column < s.columns
  column-within i p e = rw e (mod-lt i p)

  -- ---- the column that a walk carries

  pub carried : (i : ℕ) {column r : ℕ} → column ≡ i % s.columns → NextColumn s column r → r ≡ (i + 1) % s.columns
  carried i e n = n ∙ (rw e (mod-add-mod i s.columns 1))

  pub wraps : (column : ℕ) → column + 1 ≡ s.columns → (column + 1) % s.columns ≡ 0
  wraps column e = rw e (mod_self s.columns)

  pub moves : {column : ℕ} → column < s.columns → (column + 1 ≡ s.columns → ⊥) → (column + 1) % s.columns ≡ column + 1
  moves h d = mod-eq_of_lt (omega arith)

  -- ---- the square on a side

  module _ (i : ℕ) {side : ℕ} where
    pub north_some : side ≡ north → s.columns ≤ i → beside s i side ≡ i - s.columns
    unfolding beside
    north_some e h = rw e (pick_true _ _ (le-leb s.columns i h))

    pub north_none : side ≡ north → i < s.columns → beside s i side ≡ squares s
    unfolding beside
    north_none e h = rw e (pick_false _ _ (lt-leb s.columns i h))

    pub east_some : side ≡ east → ((i + 1) % s.columns ≡ 0 → ⊥) → beside s i side ≡ i + 1
    unfolding beside
    east_some e h = rw e (pick_false _ _ (ne_eqb ((i + 1) % s.columns) 0 h))

    pub east_none : side ≡ east → (i + 1) % s.columns ≡ 0 → beside s i side ≡ squares s
    unfolding beside
    east_none e h = rw e (pick_true _ _ (eq-eqb ((i + 1) % s.columns) 0 h))

    pub south_some : side ≡ south → i + s.columns < squares s → beside s i side ≡ i + s.columns
    unfolding beside
    south_some e h = rw e (pick_true _ _ (lt-ltb (i + s.columns) (squares s) h))

    pub south_none : side ≡ south → squares s ≤ i + s.columns → beside s i side ≡ squares s
    unfolding beside
    south_none e h = rw e (pick_false _ _ (le-ltb (i + s.columns) (squares s) h))

    pub west_some : side ≡ west → (i % s.columns ≡ 0 → ⊥) → beside s i side ≡ i - 1
    unfolding beside
    west_some e h = rw e (pick_false _ _ (ne_eqb (i % s.columns) 0 h))

    pub west_none : side ≡ west → i % s.columns ≡ 0 → beside s i side ≡ squares s
    unfolding beside
    west_none e h = rw e (pick_true _ _ (eq-eqb (i % s.columns) 0 h))

  -- there is a square to the west of every column but the first, and to the east of every column but the last
  pub west_in : (i : ℕ) → (i % s.columns ≡ 0 → ⊥) → 1 ≤ i
  west_in zero h = absurd (h (zero-mod s.columns))
  west_in (suc i) h = omega arith

  pub east_in : {i : ℕ} → i < squares s → ((i + 1) % s.columns ≡ 0 → ⊥) → i + 1 < squares s
  east_in {i} h d = go (ℕ_discrete (i + 1) (squares s))
    where
      go : Dec (i + 1 ≡ squares s) → i + 1 < squares s
      go (yes e) = absurd (d (rw e (mul-mod_left s.rows s.columns)))
      go (no e) = omega arith

pub opposite-opposite : (side : ℕ) → side < sides → opposite (opposite side) ≡ side
unfolding opposite
opposite-opposite zero h = refl
opposite-opposite (suc zero) h = refl
opposite-opposite (suc (suc zero)) h = refl
opposite-opposite (suc (suc (suc zero))) h = refl
opposite-opposite (suc (suc (suc (suc _)))) h = absurd (omega arith)

pub opposite_low : (side : ℕ) → side < south → side + 2 ≡ opposite side
unfolding opposite
opposite_low zero h = refl
opposite_low (suc zero) h = refl
opposite_low (suc (suc _)) h = absurd (omega arith)

pub opposite_high : (side : ℕ) → south ≤ side → side < sides → side - 2 ≡ opposite side
unfolding opposite
opposite_high zero h l = absurd (omega arith)
opposite_high (suc zero) h l = absurd (omega arith)
opposite_high (suc (suc zero)) h l = refl
opposite_high (suc (suc (suc zero))) h l = refl
opposite_high (suc (suc (suc (suc _)))) h l = absurd (omega arith)

pub opposite_small : (side : ℕ) → opposite side < sides
unfolding opposite
opposite_small zero = omega arith
opposite_small (suc zero) = omega arith
opposite_small (suc (suc zero)) = omega arith
opposite_small (suc (suc (suc _))) = omega arith

-- ---- the same by the column that a square stands in

module _ (s : Shape) {i column : ℕ} (st : OnSquare s i column) where
  pub column_small : column < s.columns
  column_small = column-within s i st.fine.columns_low st.column_is

  next_is : (column + 1) % s.columns ≡ (i + 1) % s.columns
  next_is = carried s i st.column_is refl

  pub at_last : column + 1 ≡ s.columns → (i + 1) % s.columns ≡ 0
  at_last e = sym next_is ∙ wraps s column e

  pub before_last : (column + 1 ≡ s.columns → ⊥) → (i + 1) % s.columns ≡ 0 → ⊥
  before_last d z = omega (arith, moves s column_small d, next_is, z)

  pub at_first : column ≡ 0 → i % s.columns ≡ 0
  at_first e = sym st.column_is ∙ e

  pub after_first : (column ≡ 0 → ⊥) → i % s.columns ≡ 0 → ⊥
  after_first d z = d (st.column_is ∙ z)

-- ---- there and back

module _ (s : Shape) {i : ℕ} (inside : i < squares s) where
  -- to a side and back by the opposite one is where one was
  pub there_and_back : (side : ℕ) → side < sides → beside s i side < squares s → beside s (beside s i side) (opposite side) ≡ i
  unfolding opposite
  there_and_back zero h l = go (dec_le s.columns i)
    where
      go : Dec (s.columns ≤ i) → beside s (beside s i north) south ≡ i
      go (yes b) =
          let back : i - s.columns + s.columns ≡ i = omega arith in
          rw (north_some s i {side = north} refl b) (south_some s (i - s.columns) {side = south} refl (omega arith) ∙ back)
      go (no b) = absurd (omega (arith, l, north_none s i {side = north} refl (omega arith)))
  there_and_back (suc zero) h l = go (ℕ_discrete ((i + 1) % s.columns) 0)
    where
      go : Dec ((i + 1) % s.columns ≡ 0) → beside s (beside s i east) west ≡ i
      go (yes b) = absurd (omega (arith, l, east_none s i {side = east} refl b))
      go (no b) =
          let back : i + 1 - 1 ≡ i = omega arith in
          rw (east_some s i {side = east} refl b) (west_some s (i + 1) {side = west} refl b ∙ back)
  there_and_back (suc (suc zero)) h l = go (dec_lt (i + s.columns) (squares s))
    where
      go : Dec (i + s.columns < squares s) → beside s (beside s i south) north ≡ i
      go (yes b) =
          let back : i + s.columns - s.columns ≡ i = omega arith in
          rw (south_some s i {side = south} refl b) (north_some s (i + s.columns) {side = north} refl (omega arith) ∙ back)
      go (no b) = absurd (omega (arith, l, south_none s i {side = south} refl (omega arith)))
  there_and_back (suc (suc (suc zero))) h l = go (ℕ_discrete (i % s.columns) 0)
    where
      go : Dec (i % s.columns ≡ 0) → beside s (beside s i west) east ≡ i
      go (yes b) = absurd (omega (arith, l, west_none s i {side = west} refl b))
      go (no b) =
          let back : i - 1 + 1 ≡ i = omega (arith, west_in s i b) in
          rw (west_some s i {side = west} refl b) (east_some s (i - 1) {side = east} refl (rw back b) ∙ back)
  there_and_back (suc (suc (suc (suc _)))) h l = absurd (omega arith)

-- ---- the rim

module _ (s : Shape) (i : ℕ) where
  pub on_the_rim : {side : ℕ} → side < sides → beside s i side ≡ squares s → true ≡ on_rim s i
  unfolding on_rim
  on_the_rim {side} h e =
      rw (all_fails sides (λ k. ltb (beside s i k) (squares s)) side h (rw e (le-ltb (squares s) (squares s) (omega arith))))

  pub off_the_rim : ((side : ℕ) → side < sides → beside s i side < squares s) → false ≡ on_rim s i
  unfolding on_rim
  off_the_rim f = rw (all_of sides (λ k. ltb (beside s i k) (squares s)) (λ k l. lt-ltb _ _ (f k l)))

-- a square that has all four neighbours
pub inner :
    (s : Shape) {i : ℕ} → i < squares s → s.columns ≤ i → ((i + 1) % s.columns ≡ 0 → ⊥) → i + s.columns < squares s →
    (i % s.columns ≡ 0 → ⊥) → (side : ℕ) → side < sides → beside s i side < squares s
inner s {i} h n e so w zero l = rw (north_some s i {side = north} refl n) (omega arith)
inner s {i} h n e so w (suc zero) l = rw (east_some s i {side = east} refl e) (east_in s h e)
inner s {i} h n e so w (suc (suc zero)) l = rw (south_some s i {side = south} refl so) so
inner s {i} h n e so w (suc (suc (suc zero))) l = rw (west_some s i {side = west} refl w) (omega arith)
inner s {i} h n e so w (suc (suc (suc (suc _)))) l = absurd (omega arith)

-- ---- the neighbours of a square that is not on the rim

module _ (s : Shape) (i : ℕ) (off : on_rim s i ≡ false) where
  pub each_within : (side : ℕ) → side < sides → beside s i side < squares s
  unfolding on_rim
  each_within side h = ltb-true _ _ (all_at sides (λ k. ltb (beside s i k) (squares s)) (not-false _ off) side h)

  pub north-within : s.columns ≤ i
  north-within = go (dec_le s.columns i)
    where
      go : Dec (s.columns ≤ i) → s.columns ≤ i
      go (yes b) = b
      go (no b) = absurd (omega (arith, each_within north (omega arith), north_none s i {side = north} refl (omega arith)))

  pub east-within : (i + 1) % s.columns ≡ 0 → ⊥
  east-within z = omega (arith, each_within east (omega arith), east_none s i {side = east} refl z)

  pub south-within : i + s.columns < squares s
  south-within = go (dec_lt (i + s.columns) (squares s))
    where
      go : Dec (i + s.columns < squares s) → i + s.columns < squares s
      go (yes b) = b
      go (no b) = absurd (omega (arith, each_within south (omega arith), south_none s i {side = south} refl (omega arith)))

  pub west-within : i % s.columns ≡ 0 → ⊥
  west-within z = omega (arith, each_within west (omega arith), west_none s i {side = west} refl z)

  pub north_is : i - s.columns ≡ beside s i north
  north_is = sym (north_some s i {side = north} refl north-within)

  pub east_is : i + 1 ≡ beside s i east
  east_is = sym (east_some s i {side = east} refl east-within)

  pub south_is : i + s.columns ≡ beside s i south
  south_is = sym (south_some s i {side = south} refl south-within)

  pub west_is : i - 1 ≡ beside s i west
  west_is = sym (west_some s i {side = west} refl west-within)

-- ---- a row by its first square

module _ (s : Shape) (fine : ShapeInRange s) {first : ℕ} (r : InRow s first) where
  -- the squares of a row stand in its columns
  pub row-column : {column : ℕ} → column < s.columns → OnSquare s (first + column) column
  row-column {column} h =
      let at : first ≡ first / s.columns * s.columns = omega (arith, div-add-mod' first s.columns, r.begins) in
      record {
        fine = fine;
        inside = omega (arith, r.fits);
        column_is = sym (ap (λ (k : ℕ). (k + column) % s.columns) at ∙ column_of s (first / s.columns) h);
      }

-- a walk over the rows: it begins, goes on, comes to a row, and ends
pub rows_begin : (rows columns : ℕ) → AtRow rows columns 0 0
rows_begin rows columns = record { within = omega arith; begins = sym (zero-mul columns) }

pub row_next : {rows columns row first : ℕ} → AtRow rows columns row first → row < rows → AtRow rows columns (row + 1) (first + columns)
row_next {columns = columns} {row} at h =
    record {
      within = omega arith;
      begins = ap (λ (k : ℕ). k + columns) at.begins ∙ (sym (suc-mul row columns) ∙ ap (λ (k : ℕ). k * columns) (let e : suc row ≡ row + 1 = omega arith in e));
    }

module _ (s : Shape) {row first : ℕ} (at : AtRow s.rows s.columns row first) where
  pub row_here : row < s.rows → InRow s first
  row_here h = record { begins = ap (λ (k : ℕ). k % s.columns) at.begins ∙ mul-mod_left row s.columns; fits = omega (arith, row_fits s h, at.begins) }

  pub rows_end : s.rows ≤ row → first ≡ squares s
  rows_end h = at.begins ∙ ap (λ (k : ℕ). k * s.columns) (let e : row ≡ s.rows = omega (arith, at.within) in e)
