-- Laws of a grid put into a room piece by piece: each piece fits, and together they are the whole.
-- Assumes nothing.
use mathlib.Core.Path.{◌≡◌, sym, subst, ◌∙◌}
use mathlib.Core.Bool.{true, false}
use mathlib.Core.List.{List, [], ◌∷◌, ◌++◌}
use Prim.Native.Nat.{ℕ, suc, ◌+◌, ◌/◌, ◌%◌, ◌≤◌, ◌<◌}
use native.Mathlib.Omega.{arith}
use lib.ListN.{length, get_or, length-append}
use Rattle.reckon.proofs.TestLaws.{pick_true, pick_false}
use Rattle.grid.specs.Marks.{closed}
use Rattle.grid.specs.declared.squares.Shape.{Shape}
use Rattle.text.specs.Bytes.{bytes_of}
use Rattle.text.specs.Reading.{newline}
use Rattle.text.specs.Writing.{decimal, Wrote}
use Rattle.text.proofs.WritingLaws.{Left, left_all, left_fits, left_step, left_none, wrote_both, wrote_length}
use Rattle.raster.specs.Amounts.{point, last_digits, amount_text}
use Rattle.raster.specs.Raster.{space, no_data, head_line_text, head_text}
use Rattle.raster.specs.Inner.Steps.{value_text}
use Rattle.raster.specs.declared.amounts.Scale.{Scale}
use Rattle.raster.specs.declared.amounts.Scale.TheVariants.{Metres}
use Rattle.raster.proofs.AmountLaws.{last_long}

-- the same text under another name fits as well
pub fits_as : {t u : List ℕ} (at most : ℕ) → t ≡ u → at + length t ≤ most → at + length u ≤ most
fits_as at most e h = subst (λ (v : List ℕ). at + length v ≤ most) e h

-- ---- a number

pub last-digit : (k n : ℕ) → last_digits (suc k) n ≡ last_digits k (n / 10) ++ ((48 + n % 10) ∷ [])
unfolding last_digits
last-digit k n = λ j. last_digits k (n / 10) ++ ((48 + n % 10) ∷ [])

pub no_digit : (n : ℕ) → last_digits 0 n ≡ []
unfolding last_digits
no_digit n = λ j. []

pub metres_long : (n : ℕ) → length (amount_text Metres n) ≡ length (decimal (n / 1_000_000)) + 7
unfolding amount_text
metres_long n = omega (arith, length-append (decimal (n / 1_000_000)) (point ∷ last_digits 6 n), last_long 6 n)

pub metres_put :
    (n : ℕ) {old a b new : List ℕ} {at p q r : ℕ} → at + length (amount_text Metres n) ≤ length old →
    Wrote (decimal (n / 1_000_000)) at old a p → Wrote (point ∷ []) p a b q → Wrote (last_digits 6 n) q b new r →
    Wrote (amount_text Metres n) at old new r
unfolding amount_text
metres_put n {old} {a} fits x y z =
    let long = metres_long n in
    let same : length a ≡ length old = wrote_length (omega (arith, long)) x in
    wrote_both (omega (arith, long, last_long 6 n)) x (wrote_both (omega (arith, long, last_long 6 n, x.next)) y z)

-- ---- a square

module _ (k : Scale) (marks values : List ℕ) (i : ℕ) where
  pub value_closed : closed marks i ≡ true → value_text k marks values i ≡ no_data
  value_closed e = pick_true _ _ e

  pub value_open : closed marks i ≡ false → {n : ℕ} → n ≡ get_or values i 0 → value_text k marks values i ≡ amount_text k n
  value_open e {n} f = subst (λ (m : ℕ). value_text k marks values i ≡ amount_text k m) (sym f) (pick_false _ _ e)

-- ---- a line of the header

module _ (word value : List ℕ) (at : ℕ) (old : List ℕ) (fits : at + length (head_line_text word value) ≤ length old) where
  left_0 : Left (word ++ (space ∷ (value ++ (newline ∷ [])))) at old (head_line_text word value) at old
  unfolding head_line_text
  left_0 = left_all (head_line_text word value) at old fits

  pub word_fits : at + length word ≤ length old
  word_fits = omega (arith, left_fits word (space ∷ (value ++ (newline ∷ []))) left_0)

  module _ {a : List ℕ} {p : ℕ} (w : Wrote word at old a p) where
    left_1 : Left ((space ∷ []) ++ (value ++ (newline ∷ []))) p a (head_line_text word value) at old
    left_1 = left_step left_0 w

    pub space_fits : p < length a
    space_fits = omega (arith, left_fits (space ∷ []) (value ++ (newline ∷ [])) left_1)

    module _ {b : List ℕ} {q : ℕ} (x : Wrote (space ∷ []) p a b q) where
      left_2 : Left (value ++ (newline ∷ [])) q b (head_line_text word value) at old
      left_2 = left_step left_1 x

      pub value_fits : q + length value ≤ length b
      value_fits = omega (arith, left_fits value (newline ∷ []) left_2)

      module _ {c : List ℕ} {r : ℕ} (y : Wrote value q b c r) where
        left_3 : Left ((newline ∷ []) ++ []) r c (head_line_text word value) at old
        left_3 = left_step left_2 y

        pub newline_fits : r < length c
        newline_fits = omega (arith, left_fits (newline ∷ []) [] left_3)

        pub line-put : {new : List ℕ} {end : ℕ} → Wrote (newline ∷ []) r c new end → Wrote (head_line_text word value) at old new end
        line-put z = left_none (left_step left_3 z)

-- ---- the header

module _ (shape : Shape) (D : ℕ) where
  abbrev line_1 : List ℕ
  line_1 = head_line_text (bytes_of "ncols") (decimal shape.columns)

  abbrev line_2 : List ℕ
  line_2 = head_line_text (bytes_of "nrows") (decimal shape.rows)

  abbrev line_3 : List ℕ
  line_3 = head_line_text (bytes_of "xllcorner") (decimal 0)

  abbrev line_4 : List ℕ
  line_4 = head_line_text (bytes_of "yllcorner") (decimal 0)

  abbrev line_5 : List ℕ
  line_5 = head_line_text (bytes_of "cellsize") (decimal D)

  abbrev line_6 : List ℕ
  line_6 = head_line_text (bytes_of "NODATA_value") no_data

  module _ (at : ℕ) (old : List ℕ) (fits : at + length (head_text shape D) ≤ length old) where
    none_put : Left (line_1 ++ (line_2 ++ (line_3 ++ (line_4 ++ (line_5 ++ line_6))))) at old (head_text shape D) at old
    unfolding head_text
    none_put = left_all (head_text shape D) at old fits

    pub first_fits : at + length line_1 ≤ length old
    first_fits = omega (arith, left_fits line_1 (line_2 ++ (line_3 ++ (line_4 ++ (line_5 ++ line_6)))) none_put)

    module _ {a : List ℕ} {p : ℕ} (u : Wrote line_1 at old a p) where
      one_put : Left (line_2 ++ (line_3 ++ (line_4 ++ (line_5 ++ line_6)))) p a (head_text shape D) at old
      one_put = left_step none_put u

      pub second_fits : p + length line_2 ≤ length a
      second_fits = omega (arith, left_fits line_2 (line_3 ++ (line_4 ++ (line_5 ++ line_6))) one_put)

      module _ {b : List ℕ} {q : ℕ} (v : Wrote line_2 p a b q) where
        two_put : Left (line_3 ++ (line_4 ++ (line_5 ++ line_6))) q b (head_text shape D) at old
        two_put = left_step one_put v

        pub third_fits : q + length line_3 ≤ length b
        third_fits = omega (arith, left_fits line_3 (line_4 ++ (line_5 ++ line_6)) two_put)

        module _ {c : List ℕ} {r : ℕ} (w : Wrote line_3 q b c r) where
          three_put : Left (line_4 ++ (line_5 ++ line_6)) r c (head_text shape D) at old
          three_put = left_step two_put w

          pub fourth_fits : r + length line_4 ≤ length c
          fourth_fits = omega (arith, left_fits line_4 (line_5 ++ line_6) three_put)

          module _ {d : List ℕ} {s : ℕ} (x : Wrote line_4 r c d s) where
            four_put : Left (line_5 ++ line_6) s d (head_text shape D) at old
            four_put = left_step three_put x

            pub fifth_fits : s + length line_5 ≤ length d
            fifth_fits = omega (arith, left_fits line_5 line_6 four_put)

            module _ {e : List ℕ} {t : ℕ} (y : Wrote line_5 s d e t) where
              five_put : Left line_6 t e (head_text shape D) at old
              five_put = left_step four_put y

              pub sixth_fits : t + length line_6 ≤ length e
              sixth_fits = omega (arith, five_put.fits, five_put.long, five_put.ends)

              pub head_put : {new : List ℕ} {end : ℕ} → Wrote line_6 t e new end → Wrote (head_text shape D) at old new end
              head_put {new} {end} z =
                  record { next = omega (arith, z.next, five_put.ends); room = z.room ∙ five_put.same }
