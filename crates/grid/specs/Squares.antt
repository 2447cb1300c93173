-- Document 01, "Units and ranges" and "The step": the squares of a grid, their sides, and the square on a side.
-- Assumes nothing.
use Rattle.std.specs.Prelude.{◌≡◌, Bool, not, [], ◌∷◌, ℕ, zero, suc, ◌+◌, ◌-◌, ◌*◌, ◌%◌, ◌≤◌, ◌<◌, leb, ltb, eqb}
use Rattle.reckon.specs.Tests.{pick, every, all_below}
use Rattle.grid.specs.declared.squares.Shape.{Shape}

-- "rows, columns: 1 to 64 each"
abbrev pub most_along : ℕ
most_along = 64

-- the most squares that a grid has
abbrev pub most_squares : ℕ
most_squares = most_along * most_along

-- "V for north, east, south and west": the sides in this order
abbrev pub north : ℕ
north = 0

abbrev pub east : ℕ
east = 1

abbrev pub south : ℕ
south = 2

abbrev pub west : ℕ
west = 3

-- "the four sides"
abbrev pub sides : ℕ
sides = 4

-- "row by row from the north": a square is its place in that order
abbrev pub squares : Shape → ℕ
squares s = s.rows * s.columns

-- the square in a row and a column, both from 0
abbrev pub square_at : Shape → ℕ → ℕ → ℕ
square_at s row column = row * s.columns + column

-- "off the grid" is every other number
abbrev pub within : Shape → ℕ → Bool
within s i = ltb i (squares s)

-- "neighbour" and "off the grid": the square to the north, east, south or west of square i, or the number of squares where there is none
unfoldable pub beside : Shape → ℕ → ℕ → ℕ
beside s i zero = pick (leb s.columns i) (i - s.columns) (squares s)
beside s i (suc zero) = pick (eqb ((i + 1) % s.columns) 0) (squares s) (i + 1)
beside s i (suc (suc zero)) = pick (ltb (i + s.columns) (squares s)) (i + s.columns) (squares s)
beside s i (suc (suc (suc _))) = pick (eqb (i % s.columns) 0) (squares s) (i - 1)

-- "what neighbours send": the neighbour's side that lies towards the own square
unfoldable pub opposite : ℕ → ℕ
opposite zero = south
opposite (suc zero) = west
opposite (suc (suc zero)) = north
opposite (suc (suc (suc _))) = east

-- "the rim": off the grid on some side
unfoldable pub on_rim : Shape → ℕ → Bool
on_rim s i = not (all_below sides (λ side. within s (beside s i side)))

-- refusal 1: "shape out of range"
unfoldable pub shape_fine : Shape → Bool
shape_fine s = every (leb 1 s.rows ∷ leb s.rows most_along ∷ leb 1 s.columns ∷ leb s.columns most_along ∷ [])

-- the same as ranges, with what follows of the number of squares
pub record ShapeInRange (s : Shape) : Type 0 where
  pub rows_low : 1 ≤ s.rows
  pub rows_high : s.rows ≤ most_along
  pub columns_low : 1 ≤ s.columns
  pub columns_high : s.columns ≤ most_along
  pub few : squares s ≤ most_squares

-- a row and a column of a fine grid
pub record OnGrid (s : Shape) (row column : ℕ) : Type 0 where
  pub fine : ShapeInRange s
  pub row_in : row < s.rows
  pub column_in : column < s.columns

-- a square of a fine grid, with its column
pub record OnSquare (s : Shape) (square column : ℕ) : Type 0 where
  pub fine : ShapeInRange s
  pub inside : square < squares s
  pub column_is : column ≡ square % s.columns

-- ---- what the public functions give

abbrev pub ShapeJudged : Shape → Bool → Type 0
ShapeJudged s r = r ≡ shape_fine s

abbrev pub SquaresOf : Shape → ℕ → Type 0
SquaresOf s r = r ≡ squares s

abbrev pub SquareFound : Shape → ℕ → ℕ → ℕ → Type 0
SquareFound s row column r = r ≡ square_at s row column

abbrev pub NextColumn : Shape → ℕ → ℕ → Type 0
NextColumn s column r = r ≡ (column + 1) % s.columns

abbrev pub BesideOn : Shape → ℕ → ℕ → ℕ → Type 0
BesideOn s i side r = r ≡ beside s i side

abbrev pub OppositeOf : ℕ → ℕ → Type 0
OppositeOf side r = r ≡ opposite side

abbrev pub RimJudged : Shape → ℕ → Bool → Type 0
RimJudged s i r = r ≡ on_rim s i
