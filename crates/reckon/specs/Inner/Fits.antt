-- What the functions over tables ask of one. No definition and no answer of the document names this.
-- Assumes nothing.
use Rattle.std.specs.Prelude.{ℕ, ◌+◌, ◌/◌, ◌≤◌, ◌<◌, List, length, get_or}
use Rattle.reckon.specs.Ranges.{last_clock, most_table_rows}
use Rattle.reckon.specs.Tables.{row_start}
use Rattle.reckon.specs.declared.tables.Kind.{Kind}

-- few enough rows, amounts and clock in range: what a table that passes its test meets (`fine_fits`)
pub record Fits (k : Kind) (rows : List ℕ) (t : ℕ) : Type 0 where
  pub few : length rows / k.width ≤ most_table_rows
  pub amounts : (j : ℕ) → j < length rows / k.width → get_or rows (row_start k j + 2) 0 ≤ k.most
  pub clock : t ≤ last_clock
