-- What the functions inside `put_stand` give one another: texts of at most so many bytes. No public promise names these.
-- Assumes nothing.
use Rattle.std.specs.Prelude.{List, ℕ, ◌≤◌, length}
use Rattle.text.specs.Writing.{Wrote}

-- the most bytes of a total's word, of its line, and of the line `stand`
abbrev pub most_word : ℕ
most_word = 5

abbrev pub most_total : ℕ
most_total = 28

abbrev pub most_first : ℕ
most_first = 90

-- that line and four totals
abbrev pub most_head : ℕ
most_head = 202

-- a hatch's line, and those of all nine
abbrev pub most_hatch : ℕ
most_hatch = 50

abbrev pub most_hatch_lines : ℕ
most_hatch_lines = 450

-- a square's line
abbrev pub most_square : ℕ
most_square = 30

-- a text of at most so many bytes, put at a place
pub record PutWithin (most : ℕ) (t : List ℕ) (at : ℕ) (old new : List ℕ) (r : ℕ) : Type 0 where
  pub wrote : Wrote t at old new r
  pub short : length t ≤ most
