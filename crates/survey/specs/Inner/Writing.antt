-- What the functions that write ask of a heading and of what rooms hold, so that it reads back and fits into a file. No public promise names it.
-- Assumes nothing.
use Rattle.std.specs.Prelude.{◌≡◌, List, [], ◌∷◌, ℕ, ◌*◌, ◌≤◌, ◌<◌, length, get_or}
use Rattle.reckon.specs.Ranges.{most_table_rows}
use Rattle.reckon.specs.Tables.{rain_kind, inflow_kind}
use Rattle.grid.specs.Squares.{ShapeInRange, squares}
use Rattle.text.specs.Inner.Standing.{Readable}
use Rattle.sheet.specs.Sheet.{Cells, Rooms, rooms}
use Rattle.sheet.specs.declared.reading.Heading.{Heading}

-- what can be said in a sheet: numbers that can be read, marks that have letters, tables of whole rows
pub record Sayable (h : Heading) (held : Rooms) : Type 0 where
  pub grid_small : Readable (h.shape.rows ∷ h.shape.columns ∷ h.rules.square_side ∷ [])
  pub run_small :
      Readable
      (h.rules.tolerance
      ∷ h.rules.shortest
      ∷ h.rules.longest
      ∷ h.rules.update
      ∷ h.end
      ∷ h.rules.edge
      ∷ h.rules.edition
      ∷ [])
  pub marks_low : (i : ℕ) → i < squares h.shape → get_or held.cells.marks i 0 < 3
  pub rain_long : length held.rain ≡ rain_kind.width * h.rain_rows
  pub rain_small : Readable held.rain
  pub inflow_long : length held.inflow ≡ inflow_kind.width * h.inflow_rows
  pub inflow_small : Readable held.inflow

-- what a square's line in a sheet looks at, and what a note looks at
abbrev pub only_cells : Cells → Rooms
only_cells held = record { cells = held; rain = []; inflow = [] }

abbrev pub only_noted : List ℕ → List ℕ → List ℕ → Rooms
only_noted marks rain inflow = rooms marks [] [] [] [] rain inflow

-- one number a square in each room
pub record OneEach (n : ℕ) (held : Cells) : Type 0 where
  pub marks : length held.marks ≡ n
  pub beds : length held.beds ≡ n
  pub roughness : length held.roughness ≡ n
  pub rates : length held.rates ≡ n
  pub depths : length held.depths ≡ n

-- and what fits into a file: not too many squares and rows, and no number that cannot be read
pub record Writable (h : Heading) (held : Rooms) : Type 0 where
  pub shape : ShapeInRange h.shape
  pub say : Sayable h held
  pub each : OneEach (squares h.shape) held.cells
  pub beds : Readable held.cells.beds
  pub roughness : Readable held.cells.roughness
  pub rates : Readable held.cells.rates
  pub depths : Readable held.cells.depths
  pub rain_few : h.rain_rows ≤ most_table_rows
  pub inflow_few : h.inflow_rows ≤ most_table_rows
