-- Document 02, #111: "The survey leaves `?` for a bed it couldn't see."
-- Assumes nothing.
use Rattle.std.specs.Prelude.{Bool, ◌||◌, List, [], ◌∷◌, ◌++◌, ℕ, ◌+◌, ◌-◌, ◌/◌, ◌%◌, leb, length, take, drop, Option, is_some}
use Rattle.reckon.specs.Tests.{pick, every}
use Rattle.reckon.specs.Lists.{joined}
use Rattle.grid.specs.Squares.{squares, shape_fine}
use Rattle.text.specs.Reading.{tab, word_at, next_line, line_from}
use Rattle.sheet.specs.Lines.{grid_line, line_head}
use Rattle.sheet.specs.Sheet.{grid_or, shape_of, cells_at}
use Rattle.sheet.specs.declared.lines.GridLine.{GridLine}
use Rattle.programs.specs.Program.{program_squares}

abbrev pub question : ℕ
question = 63

-- the bytes of a text from a up to b
abbrev pub between : List ℕ → ℕ → ℕ → List ℕ
between s a b = take (b - a) (drop a s)

-- ---- one line: that of the square in a row and a column, if it is at p

module _ (s : List ℕ) (p row column : ℕ) where
  -- what it begins with, up to its bed, for a mark
  abbrev pub up_to_bed : ℕ → List ℕ
  up_to_bed mark = line_head row column mark ++ (tab ∷ [])

  -- "`?` for a bed": the whole bed of an `o` or `e` line
  unfoldable pub hole_at : Bool
  hole_at = word_at s p (up_to_bed 1 ++ (question ∷ tab ∷ [])) || word_at s p (up_to_bed 2 ++ (question ∷ tab ∷ []))

  -- where the `?` stands: a letter is one byte, whatever the mark
  abbrev pub bed_at : ℕ
  bed_at = p + length (up_to_bed 1)

  -- the line with this text for its `?`
  unfoldable pub line_with : List ℕ → List ℕ
  line_with bed =
      pick hole_at (between s p bed_at ++ (bed ++ between s (bed_at + 1) (next_line s p))) (between s p (next_line s p))

-- ---- the whole text

-- how many squares' lines are looked at: none where the ordinary reader stops at line 1 or at its shape, with `meadow`'s limit
unfoldable pub looked_in : Option GridLine → ℕ
looked_in top =
    pick (every (is_some top ∷ shape_fine (grid_or top).shape ∷ leb (squares (grid_or top).shape) program_squares ∷ []))
    (squares (grid_or top).shape) 0

module _ (s : List ℕ) where
  abbrev pub looked_at : ℕ
  looked_at = looked_in (grid_line s)

  -- where the line of square i starts, and whether its bed is a `?`
  abbrev pub start_of : ℕ → ℕ
  start_of i = line_from s (cells_at s) i

  abbrev pub is_hole : ℕ → Bool
  is_hole i = hole_at s (start_of i) (i / (shape_of s).columns) (i % (shape_of s).columns)

  -- the text with these for its `?`; "Nothing else in the sheet changes"
  unfoldable pub with_beds : (ℕ → List ℕ) → List ℕ
  with_beds bed =
      take (cells_at s) s
      ++ (joined looked_at (λ i. line_with s (start_of i) (i / (shape_of s).columns) (i % (shape_of s).columns) (bed i)) ++ drop (start_of looked_at) s)

  -- the text that goes to the ordinary reader: `0` for each `?`
  abbrev pub plugged : List ℕ
  plugged = with_beds (λ i. 48 ∷ [])
