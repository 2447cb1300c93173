-- Document 01, "Flow arrows and wet rows": the rows of the grid, each as one 64-bit number, its ones, and the walk over its set columns.
-- Assumes nothing.
use Rattle.std.specs.Prelude.{◌≡◌, Bool, ◌&&◌, not, List, ℕ, zero, suc, ◌+◌, ◌-◌, ◌*◌, ◌/◌, ◌%◌, ◌^◌, ◌≤◌, leb, eqb, length, get_or}
use Rattle.std.specs.Int.Count.{ones}
use Rattle.reckon.specs.Tests.{pick, first_failing}
use Rattle.reckon.specs.Lists.{tabulate}
use Rattle.grid.specs.declared.squares.Shape.{Shape}
use Rattle.grid.specs.Squares.{squares, ShapeInRange}
use Rattle.grid.specs.Marks.{closed}

-- "one 64-bit number"
abbrev pub bits : ℕ
bits = 64

-- "not closed and at least a given depth deep": least is that depth
unfoldable pub is_wet : List ℕ → List ℕ → ℕ → ℕ → Bool
is_wet marks depths least i = not (closed marks i) && leb least (get_or depths i 0)

-- 1 for yes, 0 for no
unfoldable pub digit : Bool → ℕ
digit b = pick b 1 0

-- "bit c set exactly when": the number whose n binary digits, the lowest first, are those of the squares from `first` on
unfoldable pub mask_from : (ℕ → Bool) → ℕ → ℕ → ℕ
mask_from says first zero = 0
mask_from says first (suc n) = digit (says first) + mask_from says (suc first) n * 2

-- "each grid row becomes one 64-bit number"
abbrev pub row_mask : Shape → (ℕ → Bool) → ℕ → ℕ
row_mask s says row = mask_from says (row * s.columns) s.columns

-- the same of every row of the grid: "bit c set exactly when the square in column c is" wet
unfoldable pub wet_masks : Shape → List ℕ → List ℕ → ℕ → List ℕ
wet_masks s marks depths least = tabulate s.rows (row_mask s (is_wet marks depths least))

-- bit c of a number
unfoldable pub bit_at : ℕ → ℕ → Bool
bit_at mask c = eqb (mask / 2 ^ c % 2) 1

-- "the next wet column": the first set one at or after c, or 64 where there is none
unfoldable pub next_set : ℕ → ℕ → ℕ
next_set mask c = c + first_failing (bits - c) (λ k. not (bit_at mask (c + k)))

-- ---- what is asked, and what the public functions give

-- a row of at most 64 squares that both lists have
pub record RowLent (marks depths : List ℕ) (first columns : ℕ) : Type 0 where
  pub columns_high : columns ≤ bits
  pub marks_long : first + columns ≤ length marks
  pub depths_long : first + columns ≤ length depths

abbrev pub RowMasked : List ℕ → List ℕ → ℕ → ℕ → ℕ → ℕ → Type 0
RowMasked marks depths least first columns r = r ≡ mask_from (is_wet marks depths least) first columns

-- marks and depths, one number a square, and a row slice, one number a row
pub record RowsLent (s : Shape) (marks depths rows : List ℕ) : Type 0 where
  pub fine : ShapeInRange s
  pub marks_long : length marks ≡ squares s
  pub depths_long : length depths ≡ squares s
  pub rows_long : length rows ≡ s.rows

abbrev pub Masked : Shape → List ℕ → List ℕ → ℕ → List ℕ → Type 0
Masked s marks depths least rows = rows ≡ wet_masks s marks depths least

abbrev pub OnesOf : ℕ → ℕ → Type 0
OnesOf mask r = r ≡ ones mask

abbrev pub NextFound : ℕ → ℕ → ℕ → Type 0
NextFound mask column r = r ≡ next_set mask column
