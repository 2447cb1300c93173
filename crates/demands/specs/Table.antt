-- Document 01, "Numbers given back on refusal": what it is that a number is the one that a table says.
-- Assumes nothing.
use Rattle.std.specs.Prelude.{◌≡◌, Bool, true, false, ◌&&◌, List, [], ◌∷◌, ℕ, leb}
use Rattle.reckon.specs.Tests.{Row, ◌unless◌}

-- the rows of a table whose numbers lie between two
abbrev pub row_if : Bool → Row → List Row → List Row
row_if true row rows = row ∷ rows
row_if false row rows = rows

abbrev pub rows_between : ℕ → ℕ → List Row → List Row
rows_between low high [] = []
rows_between low high (row ∷ rows) = row_if (leb low row.number && leb row.number high) row (rows_between low high rows)

-- "the first that applies is given": a row applies where its test fails
pub data FirstFails : List Row → ℕ → Type 0 where
  here : {n : ℕ} {fine : Bool} {rows : List Row} → fine ≡ false → FirstFails (n unless fine ∷ rows) n
  later : {n k : ℕ} {fine : Bool} {rows : List Row} → fine ≡ true → FirstFails rows n → FirstFails (k unless fine ∷ rows) n

-- a call's number, 0 for none, is that of the first row that applies
pub record TableSays (rows : List Row) (number : ℕ) : Type 0 where
  pub refused : (number ≡ 0 → ⊥) → FirstFails rows number
  pub applies : (n : ℕ) → FirstFails rows n → number ≡ n
  pub never_none : FirstFails rows 0 → ⊥
