-- Laws of the arrows' text: a speed's bits, a square's line, and how long all of it can get.
-- Assumes nothing.
use mathlib.Core.Path.{◌≡◌, refl, sym, ap, ap₂, ◌∙◌}
use mathlib.Core.Bool.{true, false, not, true≢false}
use mathlib.Core.List.{List, [], ◌∷◌}
use Prim.Native.Nat.{ℕ, ◌*◌, ◌/◌, ◌%◌, ◌^◌, ◌≤◌, ◌<◌}
use native.Mathlib.Nat.{div-lt_iff_lt-mul, mod-lt}
use native.Mathlib.Omega.{arith}
use lib.Dec.{T, eqb}
use lib.Ieee as Ieee
use lib.Ieee.{Float, nan, inf, fin, binary64}
use lib.Ieee.Bits.{to_bits-lt}
use lib.Ieee.Compare.{differs_from_itself}
use lib.ListN.{length, get_or, length-append}
use borrow.Author.Tests.{eq-eqb, ne_eqb}
use Rattle.reckon.specs.Tests.{pick}
use Rattle.reckon.proofs.TestLaws.{pick_true, pick_false, pick_both}
use Rattle.grid.specs.Squares.{ShapeInRange, squares}
use Rattle.grid.specs.declared.squares.Shape.{Shape}
use Rattle.sight.specs.AllArrows.{Sights}
use Rattle.text.specs.Writing.{field_text, fields_text, line_text, Wrote}
use Rattle.text.proofs.JoinedLaws.{joined-short}
use Rattle.text.proofs.WritingLaws.{decimal-short, line_text_long, placed_none, written_as}
use Rattle.frames.specs.Arrows.{arrow_word, moving_kind, bits_of, arrow_text, arrows_text}

-- ---- a speed's bits: what is not equal to itself is no number

pub no_number : (x : Float) → Ieee.ne x x ≡ true → 0 ≡ bits_of x
unfolding bits_of pick Ieee.is_nan
no_number x e = sym (ap bits_of (differs_from_itself x (rw e tt)))

is_number : (x : Float) → Ieee.ne x x ≡ false → Ieee.is_nan x ≡ false
unfolding Ieee.ne Ieee.eq Ieee.is_nan
is_number nan e = absurd (true≢false e)
is_number (inf s) e = refl
is_number (fin s m d) e = refl

pub a_number : (x : Float) → Ieee.ne x x ≡ false → T (not (Ieee.is_nan x))
a_number x e = rw (is_number x e) tt

pub its_bits : (x : Float) → Ieee.ne x x ≡ false → Ieee.to_bits binary64 x ≡ bits_of x
unfolding bits_of
its_bits x e = sym (pick_false _ _ (is_number x e))

-- ---- a square's line

module _ (s : Shape) (seen : Sights) (i : ℕ) where
  pub still_written : {at : ℕ} {room : List ℕ} → (get_or seen.kinds i 0 ≡ moving_kind → ⊥) → Wrote (arrow_text s seen i) at room room at
  unfolding arrow_text
  still_written {at} {room} d =
      written_as (pick_false _ _ (ne_eqb _ _ d)) (record { next = omega arith; room = sym (placed_none room at) })

  pub moving_text :
      {east north : ℕ} → get_or seen.kinds i 0 ≡ moving_kind → east ≡ bits_of (get_or seen.east i nan) →
      north ≡ bits_of (get_or seen.north i nan) →
      arrow_text s seen i ≡ line_text arrow_word (i / s.columns ∷ i % s.columns ∷ east ∷ north ∷ [])
  unfolding arrow_text
  moving_text e p q =
      pick_true _ _ (eq-eqb _ _ e)
      ∙ ap₂ (λ (x y : ℕ). line_text arrow_word (i / s.columns ∷ i % s.columns ∷ x ∷ y ∷ [])) (sym p) (sym q)

-- ---- how long the arrows of a grid can get

-- the bytes that always suffice for a square's line
abbrev pub most_arrow : ℕ
most_arrow = 54

-- every speed is an f64
pub record Speeds (seen : Sights) : Type 0 where
  pub east_fits : (i : ℕ) → T (Ieee.fits binary64 (get_or seen.east i nan))
  pub north_fits : (i : ℕ) → T (Ieee.fits binary64 (get_or seen.north i nan))

bits-short : (x : Float) → T (Ieee.fits binary64 x) → bits_of x < 2 ^ 64
unfolding bits_of
bits-short x f = pick_both (λ (n : ℕ). n < 2 ^ 64) (Ieee.is_nan x) (omega arith) (to_bits-lt binary64 x f)

module _ (row column east north : ℕ) (a : row < 64) (b : column < 64) (c : east < 2 ^ 64) (d : north < 2 ^ 64) where
  four_short : length (fields_text (row ∷ column ∷ east ∷ north ∷ [])) ≤ 48
  unfolding fields_text field_text
  four_short =
      omega (
        arith,
        length-append (field_text row) (fields_text (column ∷ east ∷ north ∷ [])),
        length-append (field_text column) (fields_text (east ∷ north ∷ [])),
        length-append (field_text east) (fields_text (north ∷ [])),
        length-append (field_text north) [],
        decimal-short 1 row (omega arith),
        decimal-short 1 column (omega arith),
        decimal-short 19 east (omega arith),
        decimal-short 19 north (omega arith),
      )

module _ (s : Shape) (seen : Sights) (fine : ShapeInRange s) (w : Speeds seen) where
  arrow_short : (i : ℕ) → i < squares s → length (arrow_text s seen i) ≤ most_arrow
  unfolding arrow_text
  arrow_short i l =
      let row : i / s.columns < s.rows = (div-lt_iff_lt-mul fine.columns_low).1 l in
      let column : i % s.columns < s.columns = mod-lt i fine.columns_low in
      let east = bits_of (get_or seen.east i nan) in
      let north = bits_of (get_or seen.north i nan) in
      pick_both (λ (t : List ℕ). length t ≤ most_arrow) (eqb (get_or seen.kinds i 0) moving_kind)
      (omega (
        arith,
        line_text_long arrow_word (i / s.columns ∷ i % s.columns ∷ east ∷ north ∷ []),
        four_short (i / s.columns) (i % s.columns) east north (omega (arith, row, fine.rows_high)) (omega (arith, column, fine.columns_high))
            (bits-short _ (w.east_fits i)) (bits-short _ (w.north_fits i)),
      ))
      (omega arith)

  pub arrows_short : length (arrows_text s seen) ≤ most_arrow * squares s
  unfolding arrows_text
  arrows_short = joined-short (squares s) most_arrow (arrow_text s seen) arrow_short
