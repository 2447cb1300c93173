-- What rooms of a size hold after a sheet was read well into them: all that a program must know to hand on their parts.
-- Assumes nothing.
use Rattle.std.specs.Prelude.{◌≡◌, List, ℕ, ◌*◌, ◌≤◌, length, take}
use Rattle.reckon.specs.Ranges.{most_table_rows}
use Rattle.reckon.specs.Tables.{rain_kind, inflow_kind, table_room}
use Rattle.grid.specs.Squares.{ShapeInRange, squares}
use Rattle.sheet.specs.Sheet.{Rooms, rooms, checks_in, no_lasts, no_records}
use Rattle.sheet.specs.declared.reading.Heading.{Heading}

-- "Each room is filled from its start": of each room the numbers that belong to the sheet that was read into it
abbrev pub parts_of : Heading → Rooms → Rooms
parts_of h held =
    let n = squares h.shape in
    rooms
    (take n held.cells.marks)
    (take n held.cells.beds)
    (take n held.cells.roughness)
    (take n held.cells.rates)
    (take n held.cells.depths)
    (take (rain_kind.width * h.rain_rows) held.rain)
    (take (inflow_kind.width * h.inflow_rows) held.inflow)

-- rooms of a size after a sheet was read well into them
pub record Holds (size : ℕ) (h : Heading) (held : Rooms) : Type 0 where
  pub shape : ShapeInRange h.shape
  pub few : squares h.shape ≤ size
  pub rain_few : h.rain_rows ≤ most_table_rows
  pub inflow_few : h.inflow_rows ≤ most_table_rows
  pub marks_long : length held.cells.marks ≡ size
  pub beds_long : length held.cells.beds ≡ size
  pub roughness_long : length held.cells.roughness ≡ size
  pub rates_long : length held.cells.rates ≡ size
  pub depths_long : length held.cells.depths ≡ size
  pub rain_long : length held.rain ≡ table_room rain_kind
  pub inflow_long : length held.inflow ≡ table_room inflow_kind
  -- the checks of a run to the sheet's end pass
  pub passes : checks_in h.shape h.rules (parts_of h held) h.end ≡ 0

-- what the run of a sheet begins with: those parts, no last leaving, and a room for one record
pub record Begins (size : ℕ) (h : Heading) (parts : Rooms) (lasts records : List ℕ) : Type 0 where
  pub shape : ShapeInRange h.shape
  pub few : squares h.shape ≤ size
  pub marks_long : length parts.cells.marks ≡ squares h.shape
  pub depths_long : length parts.cells.depths ≡ squares h.shape
  pub passes : checks_in h.shape h.rules parts h.end ≡ 0
  pub lasts_none : lasts ≡ no_lasts h.shape h.rules parts
  pub records_none : records ≡ no_records h.shape h.rules parts
