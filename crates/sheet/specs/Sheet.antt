-- Document 01, "The sheet and its program": a sheet as a whole, in its order. Line k starts where k newlines have passed.
-- Assumes nothing.
use Rattle.std.specs.Prelude.{◌≡◌, Bool, false, List, [], ◌∷◌, ℕ, zero, suc, ◌+◌, ◌/◌, ◌%◌, eqb, leb, length, take, replicate, Option, Some, None, is_some}
use Rattle.reckon.specs.Tests.{pick, every, first_failing, ◌unless◌, refusal}
use Rattle.reckon.specs.Lists.{filled, joined, placed}
use Rattle.reckon.specs.Ranges.{side_fine}
use Rattle.reckon.specs.Tables.{rain_kind, inflow_kind, table_room}
use Rattle.grid.specs.Squares.{squares, shape_fine}
use Rattle.grid.specs.declared.squares.Shape.{Shape}
use Rattle.rule.specs.declared.rules.Rules.{Rules}
use Rattle.ledger.specs.Runs.{Plan, World, plan, world}
use Rattle.ledger.specs.Record.{record_size, room_slots}
use Rattle.checks.specs.Given.{Given, ground, given}
use Rattle.checks.specs.Refusals.{run_checks}
use Rattle.checks.specs.Fresh.{fresh_run}
use Rattle.text.specs.Reading.{line_of, line_from, padded}
use Rattle.text.specs.declared.reading.Fields.{Fields}
use Rattle.sheet.specs.Lines.{grid_line, run_line, cell_line, rain_word, inflow_word}
use Rattle.sheet.specs.declared.lines.CellLine.{CellLine}
use Rattle.sheet.specs.declared.lines.GridLine.{GridLine}
use Rattle.sheet.specs.declared.lines.RunLine.{RunLine}
use Rattle.sheet.specs.declared.reading.Heading.{Heading}
use Rattle.sheet.specs.declared.reading.Sheet.{Sheet}
use Rattle.sheet.specs.declared.reading.Sheet.TheVariants.{Read, Refused}

-- ---- a line that stands there, and where it does not, one of zeros

abbrev pub grid_or : Option GridLine → GridLine
grid_or (Some line) = line
grid_or None = record { shape = record { rows = 0; columns = 0 }; side = 0; next = 0 }

-- D is told by line 1
abbrev pub run_or : ℕ → Option RunLine → RunLine
run_or D (Some line) = line
run_or D None =
    record {
      rules = record { square_side = D; tolerance = 0; shortest = 0; longest = 0; update = 0; edge = 0; edition = 0 };
      end = 0;
      next = 0;
    }

abbrev pub cell_or : Option CellLine → CellLine
cell_or (Some line) = line
cell_or None = record { mark = 0; bed = 0; roughness = 0; depth = 0; rate = 0; next = 0 }

abbrev pub fields_or : Option Fields → Fields
fields_or (Some line) = line
fields_or None = record { values = padded []; next = 0 }

-- ---- lines one after the other

-- the cell line of square i of a grid with so many columns, the first square's line being at p; how many can be read before the first that cannot
abbrev pub cell_at : List ℕ → ℕ → ℕ → ℕ → Option CellLine
cell_at s p columns i = cell_line s (line_from s p i) (i / columns) (i % columns)

abbrev pub has_cell : List ℕ → ℕ → ℕ → ℕ → Bool
has_cell s p columns i = is_some (cell_at s p columns i)

abbrev pub cell_from : List ℕ → ℕ → ℕ → ℕ → CellLine
cell_from s p columns i = cell_or (cell_at s p columns i)

unfoldable pub cells_read : List ℕ → ℕ → Shape → ℕ
cells_read s p shape = first_failing (squares shape) (has_cell s p shape.columns)

-- line j of a table whose first line would be at p; how many there are (each has a byte or more)
abbrev pub row_at : List ℕ → ℕ → List ℕ → ℕ → ℕ → Option Fields
row_at s p word width j = line_of s (line_from s p j) word width

abbrev pub has_row : List ℕ → ℕ → List ℕ → ℕ → ℕ → Bool
has_row s p word width j = is_some (row_at s p word width j)

abbrev pub row_line : List ℕ → ℕ → List ℕ → ℕ → ℕ → Fields
row_line s p word width j = fields_or (row_at s p word width j)

unfoldable pub rows_read : List ℕ → ℕ → List ℕ → ℕ → ℕ
rows_read s p word width = first_failing (length s) (has_row s p word width)

-- the numbers of the first rows of a table
unfoldable pub table_rows : List ℕ → ℕ → List ℕ → ℕ → ℕ → List ℕ
table_rows s p word width rows = joined rows (λ j. take width (row_line s p word width j).values)

-- ---- the lines of a sheet

-- the number of the first square's
abbrev pub first_cell : ℕ
first_cell = 3

module _ (s : List ℕ) where
  -- line 1: "`grid` rows columns D"
  abbrev pub has_one : Bool
  has_one = is_some (grid_line s)

  abbrev pub line_one : GridLine
  line_one = grid_or (grid_line s)

  abbrev pub shape_of : Shape
  shape_of = line_one.shape

  -- line 2: "`run` q shortest longest U end"
  abbrev pub has_two : Bool
  has_two = is_some (run_line s (line_from s 0 1) line_one.side)

  abbrev pub line_two : RunLine
  line_two = run_or line_one.side (run_line s (line_from s 0 1) line_one.side)

  -- "one `cell` a square in row order"
  abbrev pub cells_at : ℕ
  cells_at = line_from s 0 2

  -- "then `rain` lines"
  abbrev pub rain_at : ℕ
  rain_at = line_from s cells_at (squares shape_of)

  abbrev pub rain_rows : ℕ
  rain_rows = rows_read s rain_at rain_word rain_kind.width

  abbrev pub rain_table : List ℕ
  rain_table = table_rows s rain_at rain_word rain_kind.width rain_rows

  -- "then `inflow` lines"
  abbrev pub inflow_at : ℕ
  inflow_at = line_from s rain_at rain_rows

  abbrev pub inflow_rows : ℕ
  inflow_rows = rows_read s inflow_at inflow_word inflow_kind.width

  abbrev pub inflow_table : List ℕ
  inflow_table = table_rows s inflow_at inflow_word inflow_kind.width inflow_rows

  abbrev pub after_all : ℕ
  after_all = line_from s inflow_at inflow_rows

  -- "Any other line, or a missing one, is 12 with its number from 1": that of the first after line 1, 0 where there is none
  unfoldable pub bad_line : ℕ
  bad_line =
      refusal
      (2 unless has_two
      ∷ (cells_read s cells_at shape_of + first_cell) unless leb (squares shape_of) (cells_read s cells_at shape_of)
      ∷ (squares shape_of + rain_rows + inflow_rows + first_cell) unless leb (length s) after_all
      ∷ [])

-- ---- the rooms

-- those that hold one number a square
pub record Cells : Type 0 where
  pub marks : List ℕ
  pub beds : List ℕ
  pub roughness : List ℕ
  pub rates : List ℕ
  pub depths : List ℕ

abbrev pub cells_rooms : List ℕ → List ℕ → List ℕ → List ℕ → List ℕ → Cells
cells_rooms m b k s d = record { marks = m; beds = b; roughness = k; rates = s; depths = d }

-- n zeros in each
abbrev pub no_cells : ℕ → Cells
no_cells n = cells_rooms (replicate n 0) (replicate n 0) (replicate n 0) (replicate n 0) (replicate n 0)

-- these and those of the tables
pub record Rooms : Type 0 where
  pub cells : Cells
  pub rain : List ℕ
  pub inflow : List ℕ

abbrev pub rooms : List ℕ → List ℕ → List ℕ → List ℕ → List ℕ → List ℕ → List ℕ → Rooms
rooms m b k s d r f = record { cells = cells_rooms m b k s d; rain = r; inflow = f }

-- "Each room is filled from its start; the rest of it stays": n squares' lines at p, the bed, roughness, rate and depth of a closed square
-- left
module _ (s : List ℕ) (p columns : ℕ) where
  abbrev pub closed_from : ℕ → Bool
  closed_from i = eqb (cell_from s p columns i).mark 0

  unfoldable pub cells_filled : ℕ → Cells → Cells
  cells_filled n old =
      record {
        marks = filled n (λ i. false) (λ i. (cell_from s p columns i).mark) old.marks;
        beds = filled n closed_from (λ i. (cell_from s p columns i).bed) old.beds;
        roughness = filled n closed_from (λ i. (cell_from s p columns i).roughness) old.roughness;
        rates = filled n closed_from (λ i. (cell_from s p columns i).rate) old.rates;
        depths = filled n closed_from (λ i. (cell_from s p columns i).depth) old.depths;
      }

-- all squares' lines, and the tables
abbrev pub all_cells : List ℕ → Cells → Cells
all_cells s = cells_filled s (cells_at s) (shape_of s).columns (squares (shape_of s))

unfoldable pub rooms_filled : List ℕ → Rooms → Rooms
rooms_filled s old =
    record {
      cells = all_cells s old.cells;
      rain = placed old.rain 0 (rain_table s);
      inflow = placed old.inflow 0 (inflow_table s);
    }

-- "shape (1, also a lent room under one number a square, 192 for rain or 320 for inflow)"
unfoldable pub rooms_fine : Shape → ℕ → Rooms → Bool
rooms_fine shape D lent =
    every
    (shape_fine shape
    ∷ side_fine D
    ∷ leb (squares shape) (length lent.cells.marks)
    ∷ leb (squares shape) (length lent.cells.beds)
    ∷ leb (squares shape) (length lent.cells.roughness)
    ∷ leb (squares shape) (length lent.cells.rates)
    ∷ leb (squares shape) (length lent.cells.depths)
    ∷ leb (table_room rain_kind) (length lent.rain)
    ∷ leb (table_room inflow_kind) (length lent.inflow)
    ∷ [])

-- ---- "then 2 to 5": the checks of a run to the sheet's end, from a fresh run with a room for one record (`never_one`, `never_six`)

-- the plan, what is given and the world of a fresh run, by what rooms hold
module _ (shape : Shape) (r : Rules) (held : Rooms) where
  abbrev pub plan_in : Plan
  plan_in = plan shape held.cells.marks

  abbrev pub given_in : Given
  given_in = given (ground r held.cells.beds held.cells.roughness held.cells.rates) held.rain held.inflow

  abbrev pub no_lasts : List ℕ
  no_lasts = replicate (squares shape) 0

  abbrev pub no_records : List ℕ
  no_records = replicate (record_size plan_in) 0

  abbrev pub start_in : World
  start_in = world held.cells.depths no_lasts no_records (fresh_run r (room_slots plan_in no_records))

  unfoldable pub checks_in : ℕ → ℕ
  checks_in end = refusal (run_checks plan_in given_in end start_in)

module _ (s : List ℕ) where
  -- what the sheet says, in rooms of one number a square and tables of just its rows
  abbrev pub said : Rooms
  said = record { cells = all_cells s (no_cells (squares (shape_of s))); rain = rain_table s; inflow = inflow_table s }

  abbrev pub checks_of : ℕ
  checks_of = checks_in (shape_of s) (line_two s).rules said (line_two s).end

  -- the heading of a sheet that is read well
  unfoldable pub heading_of : Heading
  heading_of =
      record {
        shape = shape_of s;
        rules = (line_two s).rules;
        end = (line_two s).end;
        rain_rows = rain_rows s;
        inflow_rows = inflow_rows s;
      }

-- ---- the answer

-- the number of a bad line, or else the number of a check that fails, or else the heading
unfoldable pub judged : ℕ → ℕ → Heading → Sheet
judged (suc line) number h = Refused 12 (suc line)
judged zero (suc number) h = Refused (suc number) 0
judged zero zero h = Read h

-- "line 1 read, shape .., the other text, then 2 to 5"
unfoldable pub sheet_of : List ℕ → Rooms → Sheet
sheet_of s lent =
    pick (has_one s)
    (pick (rooms_fine (shape_of s) (line_one s).side lent) (judged (bad_line s) (checks_of s) (heading_of s)) (Refused 1 0))
    (Refused 12 1)

-- what the rooms hold afterwards
unfoldable pub rooms_after : List ℕ → Sheet → Rooms → Rooms
rooms_after s (Read h) old = rooms_filled s old
rooms_after s (Refused number line) old = old

-- ---- what the public function gives

pub record Reads (s : List ℕ) (before : Rooms) (a : Sheet) (after : Rooms) : Type 0 where
  pub answer : a ≡ sheet_of s before
  pub rooms_are : after ≡ rooms_after s a before
