-- Laws of the squares beside set ones: where a column is not among them, neither its square nor any neighbour of it is set.
-- Assumes nothing.
use mathlib.Core.Path.{◌≡◌, refl, sym, ap, ap₂, ◌∙◌}
use mathlib.Core.Bool.{false}
use mathlib.Core.List.{List}
use Prim.Native.Nat.{ℕ, zero, suc, ◌+◌, ◌-◌, ◌*◌, ◌/◌, ◌%◌, ◌^◌, ◌<◌}
use native.Mathlib.Nat.{suc-mul}
use native.Mathlib.Decide.{dec_lt, ℕ_discrete}
use native.Mathlib.Omega.{arith}
use lib.Bits.{bit_or, or_step, or_shr}
use lib.Dec.{eqb}
use lib.ListN.{get_or}
use lib.Pow.{field, mod-mod-pow, shl-shr, shr-shr}
use borrow.Author.Tests.{eq-eqb, ne_eqb}
use Rattle.reckon.proofs.TestLaws.{not_both}
use Rattle.grid.specs.declared.squares.Shape.{Shape}
use Rattle.grid.specs.Squares.{north, east, south, west, sides, squares, square_at, beside, ShapeInRange, OnSquare}
use Rattle.grid.specs.Masks.{bits, bit_at}
use Rattle.grid.specs.Walks.{bit_of, row_above, beside_set}
use Rattle.grid.proofs.SquareLaws.{square_in, row_of, column_of, column-within, at_last, before_last, north_some, north_none, east_some, east_none, south_some, south_none, west_some, west_none}
use Rattle.grid.proofs.MaskLaws.{bit_shifted}

-- ---- the bits of masks joined, and of a mask moved by one column

-- a clear bit of two masks together is clear in both
pub or_clear : (a b c : ℕ) → bit_at (bit_or a b) c ≡ false → (bit_at a c ≡ false) × (bit_at b c ≡ false)
unfolding bit_at
or_clear a b c h = (
  ne_eqb (a / 2 ^ c % 2) 1 (λ z. set_not (omega (arith, together, or_step (a / 2 ^ c) (b / 2 ^ c), z))),
  ne_eqb (b / 2 ^ c % 2) 1 (λ z. set_not (omega (arith, together, or_step (a / 2 ^ c) (b / 2 ^ c), z))),
)
  where
    together : bit_or a b / 2 ^ c ≡ bit_or (a / 2 ^ c) (b / 2 ^ c)
    together = or_shr a b c

    set_not : bit_or a b / 2 ^ c % 2 ≡ 1 → ⊥
    set_not z = not_both {A = ⊥} (eq-eqb (bit_or a b / 2 ^ c % 2) 1 z) h

-- moved to the east, a bit stands in the next column
east_bit : (x c : ℕ) → suc c < bits → bit_at (x * 2 ^ 1 % 2 ^ bits) (suc c) ≡ bit_at x c
unfolding bit_at
east_bit x c h =
    ap (λ (y : ℕ). eqb y 1)
    (ap (λ (w : ℕ). x * 2 ^ 1 % 2 ^ w / 2 ^ suc c % 2) (let e : bits ≡ rest + 1 + suc c = omega arith in e)
    ∙ (ap (λ (y : ℕ). y % 2) (field (x * 2 ^ 1) (rest + 1) (suc c))
    ∙ (mod-mod-pow (x * 2 ^ 1 / 2 ^ suc c) rest 1
    ∙ ap (λ (y : ℕ). y % 2) (ap (λ (k : ℕ). x * 2 ^ 1 / 2 ^ k) (let e : suc c ≡ 1 + c = omega arith in e) ∙ (sym (shr-shr (x * 2 ^ 1) 1 c) ∙ ap (λ (y : ℕ). y / 2 ^ c) (shl-shr x 1))))))
  where
    rest : ℕ
    rest = bits - suc c - 1

west_bit : (x c : ℕ) → bit_at (x / 2 ^ 1) c ≡ bit_at x (suc c)
west_bit x c = sym (bit_shifted x 1 c) ∙ ap (bit_at x) (let e : 1 + c ≡ suc c = omega arith in e)

-- ---- a column that is not among them

module _ (rows : List ℕ) (row c : ℕ) (h : bit_at (beside_set rows row) c ≡ false) where
  abbrev own : ℕ
  own = get_or rows row 0

  apart :
      (bit_at own c ≡ false) × (bit_at (own * 2 ^ 1 % 2 ^ bits) c ≡ false) × (bit_at (own / 2 ^ 1) c ≡ false) × (bit_at (row_above rows row) c ≡ false)
      × (bit_at (get_or rows (row + 1) 0) c ≡ false)
  unfolding beside_set
  apart =
      let fifth = or_clear _ _ c h in
      let fourth = or_clear _ _ c fifth.0 in
      let third = or_clear _ _ c fourth.0 in
      let second = or_clear _ _ c third.0 in
      (second.0, second.1, third.1, fourth.1, fifth.1)

-- the bit of a square, by its row and column
bit-at : (s : Shape) (rows : List ℕ) (row : ℕ) {column : ℕ} → column < s.columns → bit_of s rows (square_at s row column) ≡ bit_at (get_or rows row 0) column
unfolding bit_of
bit-at s rows row h = ap₂ (λ (r c : ℕ). bit_at (get_or rows r 0) c) (row_of s row h) (column_of s row h)

module _ (s : Shape) (rows : List ℕ) (fine : ShapeInRange s) where
  bit_beside : {i : ℕ} (row column : ℕ) → column < s.columns → i ≡ square_at s row column → bit_at (get_or rows row 0) column ≡ false → bit_of s rows i ≡ false
  bit_beside {i} row column l e h = ap (bit_of s rows) e ∙ (bit-at s rows row l ∙ h)

  module _ {i : ℕ} (inside : i < squares s) where
    north_clear :
        (row column : ℕ) → column < s.columns → i ≡ square_at s row column → bit_at (row_above rows row) column ≡ false → beside s i north < squares s →
        bit_of s rows (beside s i north) ≡ false
    unfolding row_above
    north_clear zero column l e h b = absurd (omega (arith, b, e, l, north_none s i {side = north} refl (omega (arith, e, l))))
    north_clear (suc row) column l e h b =
        ap (bit_of s rows) (north_some s i {side = north} refl (omega (arith, e, suc-mul row s.columns)))
        ∙ bit_beside row column l (omega (arith, e, suc-mul row s.columns)) h

    west_clear :
        (row column : ℕ) → column < s.columns → i ≡ square_at s row column → bit_at (get_or rows row 0 * 2 ^ 1 % 2 ^ bits) column ≡ false →
        beside s i west < squares s → bit_of s rows (beside s i west) ≡ false
    west_clear row zero l e h b =
        absurd (omega (arith, b, west_none s i {side = west} refl (ap (λ (k : ℕ). k % s.columns) e ∙ column_of s row l)))
    west_clear row (suc column) l e h b =
        ap (bit_of s rows) (west_some s i {side = west} refl (λ z. omega (arith, z, ap (λ (k : ℕ). k % s.columns) e, column_of s row l)))
        ∙ bit_beside row column (omega arith) (omega (arith, e)) (sym (east_bit (get_or rows row 0) column (omega (arith, l, fine.columns_high))) ∙ h)

    module _ (row column : ℕ) (l : column < s.columns) (e : i ≡ square_at s row column) where
      stands : OnSquare s i column
      stands = record { fine = fine; inside = inside; column_is = sym (ap (λ (k : ℕ). k % s.columns) e ∙ column_of s row l) }

      east_clear : bit_at (get_or rows row 0 / 2 ^ 1) column ≡ false → beside s i east < squares s → bit_of s rows (beside s i east) ≡ false
      east_clear h b = go (ℕ_discrete (column + 1) s.columns)
        where
          go : Dec (column + 1 ≡ s.columns) → bit_of s rows (beside s i east) ≡ false
          go (yes z) = absurd (omega (arith, b, east_none s i {side = east} refl (at_last s stands z)))
          go (no z) =
              ap (bit_of s rows) (east_some s i {side = east} refl (before_last s stands z))
              ∙ bit_beside row (suc column) (omega arith) (omega (arith, e)) (sym (west_bit (get_or rows row 0) column) ∙ h)

      south_clear : bit_at (get_or rows (row + 1) 0) column ≡ false → beside s i south < squares s → bit_of s rows (beside s i south) ≡ false
      south_clear h b = go (dec_lt (i + s.columns) (squares s))
        where
          go : Dec (i + s.columns < squares s) → bit_of s rows (beside s i south) ≡ false
          go (yes z) =
              ap (bit_of s rows) (south_some s i {side = south} refl z)
              ∙ bit_beside (row + 1) column l (omega (arith, e, suc-mul row s.columns, ap (λ (k : ℕ). k * s.columns) (let q : row + 1 ≡ suc row = omega arith in q))) h
          go (no z) = absurd (omega (arith, b, south_none s i {side = south} refl (omega arith)))

    -- neither the square nor a neighbour of it is set
    pub calm_around :
        bit_at (beside_set rows (i / s.columns)) (i % s.columns) ≡ false →
        (bit_of s rows i ≡ false) × ((side : ℕ) → side < sides → beside s i side < squares s → bit_of s rows (beside s i side) ≡ false)
    calm_around h =
        let clear = apart rows row column h in
        (bit_beside row column within here clear.0, sides_clear)
      where
        row : ℕ
        row = i / s.columns

        column : ℕ
        column = i % s.columns

        within : column < s.columns
        within = column-within s i fine.columns_low refl

        here : i ≡ square_at s row column
        here = sym (square_in s i)

        sides_clear : (side : ℕ) → side < sides → beside s i side < squares s → bit_of s rows (beside s i side) ≡ false
        sides_clear zero g b = north_clear row column within here (apart rows row column h).3 b
        sides_clear (suc zero) g b = east_clear row column within here (apart rows row column h).2 b
        sides_clear (suc (suc zero)) g b = south_clear row column within here (apart rows row column h).4 b
        sides_clear (suc (suc (suc zero))) g b = west_clear row column within here (apart rows row column h).1 b
        sides_clear (suc (suc (suc (suc _)))) g b = absurd (omega arith)
