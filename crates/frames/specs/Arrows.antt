-- The arrows of a grid as text: a line for each square that moves.
-- Assumes nothing.
use Rattle.std.specs.Prelude.{List, [], ◌∷◌, ℕ, ◌/◌, ◌%◌, eqb, Float, get_or}
use Rattle.std.specs.Float.Ieee as Ieee
use Rattle.std.specs.Float.{nan, binary64}
use Rattle.reckon.specs.Tests.{pick}
use Rattle.reckon.specs.Lists.{joined}
use Rattle.grid.specs.Squares.{squares}
use Rattle.grid.specs.declared.squares.Shape.{Shape}
use Rattle.sight.specs.AllArrows.{Sights}
use Rattle.text.specs.Writing.{line_text, Wrote}

abbrev pub arrow_word : List ℕ
arrow_word = 97 ∷ 114 ∷ 114 ∷ 111 ∷ 119 ∷ []

-- the kind of a square that moves
abbrev pub moving_kind : ℕ
moving_kind = 0

-- "the decimal of their 64 bits"; 0 for what is no number, which no arrow is
unfoldable pub bits_of : Float → ℕ
bits_of x = pick (Ieee.is_nan x) 0 (Ieee.to_bits binary64 x)

-- "`arrow` row column east north for each moving square"
unfoldable pub arrow_text : Shape → Sights → ℕ → List ℕ
arrow_text s seen i =
    pick (eqb (get_or seen.kinds i 0) moving_kind)
    (line_text arrow_word
    (i / s.columns
    ∷ i % s.columns
    ∷ bits_of (get_or seen.east i nan)
    ∷ bits_of (get_or seen.north i nan)
    ∷ []))
    []

-- in the order of the squares
unfoldable pub arrows_text : Shape → Sights → List ℕ
arrows_text s seen = joined (squares s) (arrow_text s seen)

-- ---- what the public function gives

abbrev pub PutArrows : Shape → Sights → ℕ → List ℕ → List ℕ → ℕ → Type 0
PutArrows s seen at old new r = Wrote (arrows_text s seen) at old new r
