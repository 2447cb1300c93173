-- How long each line of a state can get, whatever its numbers are.
-- Assumes nothing.
use mathlib.Core.Path.{◌≡◌}
use mathlib.Core.List.{List, [], ◌∷◌}
use Prim.Native.Nat.{ℕ, ◌+◌, ◌/◌, ◌%◌, ◌^◌, ◌≤◌, ◌<◌}
use native.Mathlib.Omega.{arith}
use lib.ListN.{length, length-append}
use Rattle.grid.specs.Squares.{most_squares}
use Rattle.text.specs.Writing.{field_text, fields_text, line_text}
use Rattle.text.proofs.WritingLaws.{decimal-short, line_text_long}
use Rattle.hatches.specs.Lines.{hatch_word}
use Rattle.hatches.specs.Log.{most_hatches}
use Rattle.stands.specs.Texts.{stand_word, at_word, half, total_text}
use Rattle.stands.specs.Inner.Putting.{most_word, most_total, most_first, most_hatch, most_square}

-- ---- fields of numbers of 32 and of 64 bits

narrow : (n : ℕ) → n < 2 ^ 32 → length (field_text n) ≤ 11
unfolding field_text
narrow n h = omega (arith, decimal-short 9 n (omega arith))

wide : (n : ℕ) → n < 2 ^ 64 → length (field_text n) ≤ 21
unfolding field_text
wide n h = omega (arith, decimal-short 19 n (omega arith))

square_field : (i : ℕ) → i < most_squares → length (field_text i) ≤ 5
unfolding field_text
square_field i h = omega (arith, decimal-short 3 i (omega arith))

fields_more : (v : ℕ) (vs : List ℕ) → length (fields_text (v ∷ vs)) ≡ length (field_text v) + length (fields_text vs)
unfolding fields_text
fields_more v vs = length-append (field_text v) (fields_text vs)

fields_none : length (fields_text []) ≤ 0
unfolding fields_text
fields_none = omega arith

-- ---- lines

pub total_short : (word : List ℕ) (n : ℕ) → n < 2 ^ 64 → length word ≤ most_word → length (total_text word n) ≤ most_total
unfolding total_text
total_short word n h g =
    omega (
      arith,
      line_text_long word (n / half ∷ n % half ∷ []),
      fields_more (n / half) (n % half ∷ []),
      fields_more (n % half) [],
      fields_none,
      narrow (n / half) (omega arith),
      narrow (n % half) (omega arith),
    )

pub first_short : (a b c d : ℕ) → a < 2 ^ 64 → b < 2 ^ 64 → c < 2 ^ 64 → d < 2 ^ 64 → length (line_text stand_word (a ∷ b ∷ c ∷ d ∷ [])) ≤ most_first
first_short a b c d h i j k =
    omega (
      arith,
      line_text_long stand_word (a ∷ b ∷ c ∷ d ∷ []),
      fields_more a (b ∷ c ∷ d ∷ []),
      fields_more b (c ∷ d ∷ []),
      fields_more c (d ∷ []),
      fields_more d [],
      fields_none,
      wide a h,
      wide b i,
      wide c j,
      wide d k,
    )

pub hatch_short : (h row column litres : ℕ) → h < most_hatches → row < 2 ^ 32 → column < 2 ^ 32 → litres < 2 ^ 32 →
    length (line_text hatch_word ((h + 1) ∷ row ∷ column ∷ litres ∷ [])) ≤ most_hatch
hatch_short h row column litres l i j k =
    omega (
      arith,
      line_text_long hatch_word ((h + 1) ∷ row ∷ column ∷ litres ∷ []),
      fields_more (h + 1) (row ∷ column ∷ litres ∷ []),
      fields_more row (column ∷ litres ∷ []),
      fields_more column (litres ∷ []),
      fields_more litres [],
      fields_none,
      narrow (h + 1) (omega arith),
      narrow row i,
      narrow column j,
      narrow litres k,
    )

pub square_short : (i depth last : ℕ) → i < most_squares → depth < 2 ^ 32 → last < 2 ^ 32 → length (line_text at_word (i ∷ depth ∷ last ∷ [])) ≤ most_square
square_short i depth last l h k =
    omega (
      arith,
      line_text_long at_word (i ∷ depth ∷ last ∷ []),
      fields_more i (depth ∷ last ∷ []),
      fields_more depth (last ∷ []),
      fields_more last [],
      fields_none,
      square_field i l,
      narrow depth h,
      narrow last k,
    )
