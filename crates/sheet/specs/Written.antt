-- Document 01, "The sheet and its program": a sheet as it is written, by what it says. Lines stand in the document's order.
-- Assumes nothing.
use Rattle.std.specs.Prelude.{List, [], ◌∷◌, ◌++◌, ℕ, ◌+◌, ◌*◌, ◌/◌, ◌%◌, get_or}
use Rattle.reckon.specs.Tests.{pick}
use Rattle.reckon.specs.Lists.{tabulate, joined}
use Rattle.reckon.specs.Tables.{rain_kind, inflow_kind}
use Rattle.grid.specs.Squares.{squares}
use Rattle.grid.specs.Marks.{closed}
use Rattle.text.specs.Writing.{rest_text, line_text}
use Rattle.sheet.specs.Lines.{grid_word, run_word, rain_word, inflow_word, line_head}
use Rattle.sheet.specs.Sheet.{Rooms}
use Rattle.sheet.specs.declared.reading.Heading.{Heading}

-- "`grid` rows columns D"
unfoldable pub grid_written : Heading → List ℕ
grid_written h = line_text grid_word (h.shape.rows ∷ h.shape.columns ∷ h.rules.square_side ∷ [])

-- "`run` q shortest longest U end", and document 02's e (#102) and edition (#113)
unfoldable pub run_written : Heading → List ℕ
run_written h =
    line_text run_word
    (h.rules.tolerance
    ∷ h.rules.shortest
    ∷ h.rules.longest
    ∷ h.rules.update
    ∷ h.end
    ∷ h.rules.edge
    ∷ h.rules.edition
    ∷ [])

-- after a square's mark: "bed, roughness, depth", and the rate (#106); "an `x` line ends after its mark"
unfoldable pub ground_at : Rooms → ℕ → List ℕ
ground_at held i =
    pick (closed held.cells.marks i) []
    (get_or held.cells.beds i 0
    ∷ get_or held.cells.roughness i 0
    ∷ get_or held.cells.depths i 0
    ∷ get_or held.cells.rates i 0
    ∷ [])

-- "one `cell` a square in row order: row, column (from 0), mark .., bed, roughness, depth"
unfoldable pub cell_written : ℕ → Rooms → ℕ → List ℕ
cell_written columns held i =
    line_head (i / columns) (i % columns) (get_or held.cells.marks i 0) ++ rest_text (ground_at held i)

-- "then `rain` lines; then `inflow` lines": a line a row, whose numbers stand one after the other in the table
unfoldable pub row_written : List ℕ → ℕ → List ℕ → ℕ → List ℕ
row_written word width table j = line_text word (tabulate width (λ k. get_or table (width * j + k) 0))

-- all lines in their order, each square's as it is given: of each room only the squares and rows that the heading counts are looked at
unfoldable pub lines_written : Heading → Rooms → (ℕ → List ℕ) → List ℕ
lines_written h held cell =
    grid_written h
    ++ (run_written h
    ++ (joined (squares h.shape) cell
    ++ (joined h.rain_rows (row_written rain_word rain_kind.width held.rain)
    ++ joined h.inflow_rows (row_written inflow_word inflow_kind.width held.inflow))))

-- the whole sheet
unfoldable pub sheet_written : Heading → Rooms → List ℕ
sheet_written h held = lines_written h held (cell_written h.shape.columns held)
