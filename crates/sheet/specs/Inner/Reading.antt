-- What the functions inside `read` give one another. No public promise names these.
-- Assumes nothing.
use Rattle.std.specs.Prelude.{◌≡◌, List, ℕ, zero, suc, ◌+◌, ◌≤◌}
use Rattle.reckon.specs.Ranges.{most_table_rows}
use Rattle.grid.specs.Squares.{squares}
use Rattle.grid.specs.declared.squares.Shape.{Shape}
use Rattle.text.specs.Reading.{line_from}
use Rattle.sheet.specs.Sheet.{Cells, line_two, shape_of, cells_at, rain_at, rain_rows, inflow_at, inflow_rows, bad_line, cells_read, rows_read, cells_filled, all_cells, checks_of}
use Rattle.sheet.specs.declared.rooms.Scan.{Scan}
use Rattle.sheet.specs.declared.reading.Body.{Body}
use Rattle.sheet.specs.declared.reading.Verdict.{Verdict}

-- of a table as many rows are looked at: one too many is enough to refuse it
abbrev pub looked_rows : ℕ
looked_rows = most_table_rows + 1

-- cell lines from p on, read into rooms
pub record CellsRead (s : List ℕ) (p : ℕ) (shape : Shape) (r : Scan) (before after : Cells) : Type 0 where
  pub count_is : r.count ≡ cells_read s p shape
  pub next_is : r.next ≡ line_from s p r.count
  pub rooms_are : after ≡ cells_filled s p shape.columns r.count before
  pub passed : p + r.count ≤ r.next

-- lines of a table counted from p on
pub record RowsCounted (s : List ℕ) (p : ℕ) (word : List ℕ) (width : ℕ) (r : Scan) : Type 0 where
  pub count_is : r.count ≡ rows_read s p word width
  pub next_is : r.next ≡ line_from s p r.count
  pub passed : p + r.count ≤ r.next

-- what the text after line 1 says
pub record BodyIs (s : List ℕ) (b : Body) : Type 0 where
  pub rules_are : b.rules ≡ (line_two s).rules
  pub end_is : b.end ≡ (line_two s).end
  pub all-cells : cells_read s (cells_at s) (shape_of s) ≡ squares (shape_of s)
  pub cells_at_is : b.cells_at ≡ cells_at s
  pub rain_at_is : b.rain_at ≡ rain_at s
  pub rain_rows_are : b.rain_rows ≡ rain_rows s
  pub inflow_at_is : b.inflow_at ≡ inflow_at s
  pub inflow_rows_are : b.inflow_rows ≡ inflow_rows s

-- the text after line 1, its squares read into rooms
pub record TextRead (s : List ℕ) (b : Body) (before after : Cells) : Type 0 where
  pub bad_is : b.bad ≡ bad_line s
  pub body_is : b.bad ≡ 0 → BodyIs s b
  pub rooms_are : b.bad ≡ 0 → after ≡ all_cells s before

-- 12 where a line is bad, or else the number of the check that fails
unfoldable pub number_of : ℕ → ℕ → ℕ
number_of (suc line) number = 12
number_of zero number = number

pub record Decided (s : List ℕ) (r : Verdict) : Type 0 where
  pub line_is : r.line ≡ bad_line s
  pub number_is : r.number ≡ number_of (bad_line s) (checks_of s)
  pub body_is : r.number ≡ 0 → BodyIs s r.body
