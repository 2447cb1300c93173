-- Document 02, #111, worked by hand: rounds over a wall, and texts with holes. On the left what the definitions give, on the right what it
-- should be.
-- Assumes nothing.
use Rattle.std.specs.Prelude.{◌≡◌, List, [], ◌∷◌, ℕ}
use Prim.Native.String.{String}
use Rattle.text.specs.Bytes.{bytes_of}
use Rattle.grid.specs.declared.squares.Shape.{Shape}
use Rattle.holes.specs.Rounds.{no_bed, after_rounds, filled_beds, round_filling}
use Rattle.holes.specs.Repaired.{given_text, repair_text}

-- ---- rounds

-- 2 rows of 4, of which the fourth square of the first row lies behind two closed ones:
--   50  ?  x  ?
--    ?  ?  70 x
abbrev shape : Shape
shape = record { rows = 2; columns = 4 }

abbrev marks : List ℕ
marks = 1 ∷ 2 ∷ 0 ∷ 1 ∷ 1 ∷ 1 ∷ 1 ∷ 0 ∷ []

abbrev beds : List ℕ
beds = 50 ∷ no_bed ∷ 3 ∷ no_bed ∷ no_bed ∷ no_bed ∷ 70 ∷ 4 ∷ []

-- one row of 4, of which the last is known
abbrev row : Shape
row = record { rows = 1; columns = 4 }

abbrev row_marks : List ℕ
row_marks = 1 ∷ 1 ∷ 1 ∷ 1 ∷ []

abbrev row_beds : List ℕ
row_beds = no_bed ∷ no_bed ∷ no_bed ∷ 8 ∷ []

pub record RoundsWorked : Type 0 where
  -- the square between 50 and 70, of which neither touches a known one before it, takes what its own neighbours had: 70 alone
  pub one : after_rounds shape marks beds 1 ≡ 50 ∷ 50 ∷ 3 ∷ no_bed ∷ 50 ∷ 70 ∷ 70 ∷ 4 ∷ []
  pub all : filled_beds shape marks beds ≡ 50 ∷ 50 ∷ 3 ∷ no_bed ∷ 50 ∷ 70 ∷ 70 ∷ 4 ∷ []
  pub two_in_line : after_rounds row row_marks row_beds 2 ≡ no_bed ∷ 8 ∷ 8 ∷ 8 ∷ []
  pub all_in_line : filled_beds row row_marks row_beds ≡ 8 ∷ 8 ∷ 8 ∷ 8 ∷ []
  pub third_round : round_filling row row_marks row_beds 0 ≡ 3
  pub known_at-start : round_filling row row_marks row_beds 3 ≡ 0

-- ---- texts

-- one row of two, the second not seen, and what is printed of it
abbrev holed : String
holed = "grid\t1\t2\t3\nrun\t9\t3\t7\t8\t8\t5\t1\ncell\t0\t0\to\t50\t6\t0\t0\ncell\t0\t1\te\t?\t6\t0\t0\n"

abbrev mended : String
mended = "grid\t1\t2\t3\nrun\t9\t3\t7\t8\t8\t5\t1\ncell\t0\t0\to\t50\t6\t0\t0\ncell\t0\t1\te\t50\t6\t0\t0\n0\t1\t50\t1\n"

-- the same with a closed square beside it: it keeps its `?`
abbrev walled : String
walled = "grid\t1\t2\t3\nrun\t9\t3\t7\t8\t8\t5\t1\ncell\t0\t0\tx\ncell\t0\t1\te\t?\t6\t0\t0\n"

abbrev unmended : String
unmended = "grid\t1\t2\t3\nrun\t9\t3\t7\t8\t8\t5\t1\ncell\t0\t0\tx\ncell\t0\t1\te\t?\t6\t0\t0\n0\t1\t-\t-\n"

-- a `?` for another number
abbrev elsewhere : String
elsewhere = "grid\t1\t2\t3\nrun\t9\t3\t7\t8\t8\t5\t1\ncell\t0\t0\to\t50\t?\t0\t0\ncell\t0\t1\te\t?\t6\t0\t0\n"

pub record RepairWorked : Type 0 where
  pub repaired : repair_text (bytes_of holed) ≡ bytes_of mended
  pub unreached : repair_text (bytes_of walled) ≡ bytes_of unmended
  pub not_a_bed : repair_text (bytes_of elsewhere) ≡ bytes_of "refused\t12\t3\n"
  pub listed : given_text 1 20 300 4 ≡ bytes_of "1\t20\t300\t4\n"
