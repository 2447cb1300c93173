-- How long a grid's text can be.
-- Assumes nothing.
use mathlib.Core.Path.{◌≡◌, refl, ap, ◌∙◌}
use mathlib.Core.Bool.{false}
use mathlib.Core.List.{List, [], ◌∷◌, ◌++◌}
use Prim.Native.Nat.{ℕ, ◌+◌, ◌*◌, ◌≤◌}
use native.Mathlib.Omega.{arith}
use lib.ListN.{length, get_or, length-append}
use Rattle.reckon.specs.Lists.{joined}
use Rattle.reckon.proofs.TestLaws.{pick_true, pick_false}
use Rattle.grid.specs.Squares.{squares}
use Rattle.grid.specs.Marks.{closed}
use Rattle.grid.specs.declared.squares.Shape.{Shape}
use Rattle.text.specs.Bytes.{bytes_of}
use Rattle.text.specs.Reading.{newline, most_number}
use Rattle.text.specs.Writing.{decimal}
use Rattle.text.proofs.ReadingLaws.{by_test}
use Rattle.text.proofs.JoinedLaws.{joined-short}
use Rattle.text.proofs.WritingLaws.{decimal-short}
use Rattle.raster.specs.Amounts.{amount_text}
use Rattle.raster.specs.Raster.{space, no_data, head_line_text, head_text, entry_text, grid_text}
use Rattle.raster.specs.Inner.Steps.{value_text, gap_byte}
use Rattle.raster.specs.declared.amounts.Scale.{Scale}
use Rattle.raster.proofs.AmountLaws.{amount_short}

line_long : (word value : List ℕ) → length (head_line_text word value) ≡ length word + length value + 2
unfolding head_line_text
line_long word value = length-append word (space ∷ (value ++ (newline ∷ []))) ∙ omega (arith, length-append value (newline ∷ []))

ten : (n : ℕ) → n ≤ most_number → length (decimal n) ≤ 10
ten n h = decimal-short 9 n (omega arith)

-- of a word of so many letters
worded : (word value : List ℕ) (letters : ℕ) → length word ≡ letters → length value ≤ 10 → length (head_line_text word value) ≤ letters + 12
worded word value letters e h = omega (arith, line_long word value)

head_short :
    (shape : Shape) (D : ℕ) → shape.columns ≤ most_number → shape.rows ≤ most_number → D ≤ most_number → length (head_text shape D) ≤ 128
unfolding head_text bytes_of
head_short shape D c r d =
    simp length-append
    (omega (
      arith,
      worded (bytes_of "ncols") (decimal shape.columns) 5 refl (ten shape.columns c),
      worded (bytes_of "nrows") (decimal shape.rows) 5 refl (ten shape.rows r),
      worded (bytes_of "xllcorner") (decimal 0) 9 refl (ten 0 (omega arith)),
      worded (bytes_of "yllcorner") (decimal 0) 9 refl (ten 0 (omega arith)),
      worded (bytes_of "cellsize") (decimal D) 8 refl (ten D d),
      worded (bytes_of "NODATA_value") no_data 12 refl (omega arith),
    ))

module _ (k : Scale) (marks values : List ℕ) (small : (i : ℕ) → closed marks i ≡ false → get_or values i 0 ≤ most_number) where
  value_short : (i : ℕ) → length (value_text k marks values i) ≤ 11
  unfolding bytes_of
  value_short i =
      by_test (closed marks i) (λ e. omega (arith, ap length (pick_true no_data (amount_text k (get_or values i 0)) e)))
      (λ e. omega (arith, ap length (pick_false no_data (amount_text k (get_or values i 0)) e), amount_short k (get_or values i 0) (small i e)))

  entry_short : (columns i : ℕ) → length (entry_text k columns marks values i) ≤ 12
  unfolding entry_text
  entry_short columns i = omega (arith, length-append (value_text k marks values i) (gap_byte columns i ∷ []), value_short i)

  pub grid-short :
      (shape : Shape) (D : ℕ) → shape.columns ≤ most_number → shape.rows ≤ most_number → D ≤ most_number →
      length (grid_text k shape marks values D) ≤ 128 + 12 * squares shape
  unfolding grid_text
  grid-short shape D c r d =
      omega (
        arith,
        length-append (head_text shape D) (joined (squares shape) (entry_text k shape.columns marks values)),
        head_short shape D c r d,
        joined-short (squares shape) 12 (entry_text k shape.columns marks values) (λ i l. entry_short shape.columns i),
      )
