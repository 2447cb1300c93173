-- Document 02, #109: "going from one set bit to the next", and the squares beside those that are set.
-- Assumes nothing.
use Rattle.std.specs.Prelude.{◌≡◌, Bool, List, ℕ, zero, suc, ◌+◌, ◌-◌, ◌*◌, ◌/◌, ◌%◌, ◌^◌, min, get_or}
use Rattle.std.specs.Int.Bits.{bit_or}
use Rattle.grid.specs.declared.squares.Shape.{Shape}
use Rattle.grid.specs.Masks.{bits, bit_at, next_set}

-- the next set column of a row with so many columns, or their number where there is none
abbrev pub next_within : ℕ → ℕ → ℕ → ℕ
next_within mask column columns = min (next_set mask column) columns

-- the columns of a mask that a row with so many has
abbrev pub within_row : ℕ → ℕ → ℕ
within_row mask columns = mask % 2 ^ columns

-- the lowest set column
abbrev pub lowest_set : ℕ → ℕ
lowest_set mask = next_set mask 0

-- a mask without the bit of its lowest set column
abbrev pub without_lowest : ℕ → ℕ
without_lowest mask = mask - 2 ^ lowest_set mask

-- a square's bit in the masks of all rows
unfoldable pub bit_of : Shape → List ℕ → ℕ → Bool
bit_of s rows i = bit_at (get_or rows (i / s.columns) 0) (i % s.columns)

-- the mask of the row above, 0 for none
unfoldable pub row_above : List ℕ → ℕ → ℕ
row_above rows zero = 0
row_above rows (suc row) = get_or rows row 0

-- the columns of a row that are set or beside a set one: to the west of it, to the east of it, below it or above it
unfoldable pub beside_set : List ℕ → ℕ → ℕ
beside_set rows row =
    bit_or (bit_or (bit_or (bit_or (get_or rows row 0) (get_or rows row 0 * 2 ^ 1 % 2 ^ bits)) (get_or rows row 0 / 2 ^ 1)) (row_above rows row)) (get_or rows (row + 1) 0)

-- ---- what the public functions give

abbrev pub NextWithin : ℕ → ℕ → ℕ → ℕ → Type 0
NextWithin mask column columns r = r ≡ next_within mask column columns

abbrev pub WithinRow : ℕ → ℕ → ℕ → Type 0
WithinRow mask columns r = r ≡ within_row mask columns

abbrev pub LowestSet : ℕ → ℕ → Type 0
LowestSet mask r = r ≡ lowest_set mask

abbrev pub WithoutLowest : ℕ → ℕ → Type 0
WithoutLowest mask r = r ≡ without_lowest mask

abbrev pub BesideSet : List ℕ → ℕ → ℕ → Type 0
BesideSet rows row r = r ≡ beside_set rows row
