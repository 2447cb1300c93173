-- Document 01, "Units and ranges": marks, and what is asked of them.
-- Assumes nothing.
use Rattle.std.specs.Prelude.{◌≡◌, Bool, false, ◌&&◌, ◌||◌, not, List, [], ◌∷◌, ℕ, ◌+◌, ◌*◌, ◌/◌, leb, ltb, eqb, length, get_or}
use Rattle.reckon.specs.Tests.{every, all_below}
use Rattle.reckon.specs.Tables.{inflow_kind}
use Rattle.grid.specs.declared.squares.Shape.{Shape}
use Rattle.grid.specs.Squares.{ShapeInRange, squares, square_at, on_rim}

-- "mark: 0 closed, 1 open, 2 exit"
abbrev pub closed_mark : ℕ
closed_mark = 0

abbrev pub exit_mark : ℕ
exit_mark = 2

-- one mark a square; a mark past the end reads closed
abbrev pub mark_at : List ℕ → ℕ → ℕ
mark_at marks i = get_or marks i closed_mark

-- "a closed square"
unfoldable pub closed : List ℕ → ℕ → Bool
closed marks i = eqb (mark_at marks i) closed_mark

-- "an exit"
unfoldable pub exit : List ℕ → ℕ → Bool
exit marks i = eqb (mark_at marks i) exit_mark

-- refusal 2: "mark above 2, exit off the rim"
unfoldable pub mark_fine : Shape → List ℕ → ℕ → Bool
mark_fine s marks i = leb (mark_at marks i) exit_mark && (not (exit marks i) || on_rim s i)

-- the same of every square
unfoldable pub marks_fine : Shape → List ℕ → Bool
marks_fine s marks = all_below (squares s) (mark_fine s marks)

-- "Inflow rows: row, column, from, to, litres"
abbrev pub inflow_words : ℕ
inflow_words = inflow_kind.width

-- the row and the column that inflow row j names
abbrev pub inflow_row : List ℕ → ℕ → ℕ
inflow_row rows j = get_or rows (inflow_words * j) 0

abbrev pub inflow_column : List ℕ → ℕ → ℕ
inflow_column rows j = get_or rows (inflow_words * j + 1) 0

-- refusal 4: "inflow on a closed or missing square"
unfoldable pub inflow_square_fine : Shape → List ℕ → List ℕ → ℕ → Bool
inflow_square_fine s marks rows j =
    every
    (ltb (inflow_row rows j) s.rows
    ∷ ltb (inflow_column rows j) s.columns
    ∷ not (closed marks (square_at s (inflow_row rows j) (inflow_column rows j)))
    ∷ [])

-- the same of every whole row of the table
unfoldable pub inflow_squares_fine : Shape → List ℕ → List ℕ → Bool
inflow_squares_fine s marks rows = all_below (length rows / inflow_words) (inflow_square_fine s marks rows)

-- "no answer depends on them": two lists of numbers that are equal wherever the mark is not closed
pub record Alike (marks a b : List ℕ) : Type 0 where
  pub at : (i : ℕ) → closed marks i ≡ false → get_or a i 0 ≡ get_or b i 0

-- one mark a square of a fine grid
pub record Marked (s : Shape) (marks : List ℕ) : Type 0 where
  pub fine : ShapeInRange s
  pub whole : length marks ≡ squares s

-- ---- what the public functions give

abbrev pub ClosedJudged : List ℕ → ℕ → Bool → Type 0
ClosedJudged marks i r = r ≡ closed marks i

abbrev pub ExitJudged : List ℕ → ℕ → Bool → Type 0
ExitJudged marks i r = r ≡ exit marks i

abbrev pub MarksJudged : Shape → List ℕ → Bool → Type 0
MarksJudged s marks r = r ≡ marks_fine s marks

abbrev pub InflowSquaresJudged : Shape → List ℕ → List ℕ → Bool → Type 0
InflowSquaresJudged s marks rows r = r ≡ inflow_squares_fine s marks rows
