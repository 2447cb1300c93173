-- Document 01, "The sheet and its program", field by field: the numbers of a sheet that is read, and of what is printed, each in its place.
-- Assumes nothing.
use Rattle.std.specs.Prelude.{◌≡◌, false, List, [], ◌∷◌, ◌++◌, ℕ, suc, ◌+◌, ◌*◌, ◌/◌, ◌%◌, ◌≤◌, ◌<◌, get_or, drop}
use Rattle.reckon.specs.Tests.{pick}
use Rattle.reckon.specs.Lists.{joined}
use Rattle.grid.specs.Squares.{squares}
use Rattle.grid.specs.Marks.{closed}
use Rattle.ledger.specs.Runs.{Plan}
use Rattle.ledger.specs.declared.runs.Run.{Run}
use Rattle.text.specs.Bytes.{bytes_of}
use Rattle.text.specs.Reading.{line_from}
use Rattle.text.specs.Writing.{fields_text, rest_text, line_text}
use Rattle.sheet.specs.Sheet.{Rooms, Reads, said, sheet_of}
use Rattle.sheet.specs.Written.{sheet_written}
use Rattle.sheet.specs.declared.reading.Heading.{Heading}
use Rattle.sheet.specs.declared.reading.Sheet.TheVariants.{Read}
use Rattle.answer.specs.Printed.{refused_text, made_text}

-- ---- a sheet that is read

-- line k of a text, counted from 0, is t with its newline
abbrev pub LineIs : List ℕ → ℕ → List ℕ → Type 0
LineIs s k t = drop (line_from s 0 k) s ≡ t ++ drop (line_from s 0 (suc k)) s

-- the line of the first square, and those of the tables' first rows
abbrev pub cell_lines : ℕ
cell_lines = 2

abbrev pub rain_lines : Heading → ℕ
rain_lines h = cell_lines + squares h.shape

abbrev pub inflow_lines : Heading → ℕ
inflow_lines h = rain_lines h + h.rain_rows

-- "`cell` .. row, column (from 0)", in row order
abbrev pub place_of : Heading → ℕ → List ℕ
place_of h i = bytes_of "cell" ++ fields_text (i / h.shape.columns ∷ i % h.shape.columns ∷ [])

-- "bed, roughness, depth", and the soak rate
abbrev pub ground_in : Rooms → ℕ → List ℕ
ground_in held i =
    get_or held.cells.beds i 0
    ∷ get_or held.cells.roughness i 0
    ∷ get_or held.cells.depths i 0
    ∷ get_or held.cells.rates i 0
    ∷ []

-- a heading and rooms have just the numbers that the lines of a text say
pub record SheetFields (s : List ℕ) (h : Heading) (held : Rooms) : Type 0 where
  -- "`grid` rows columns D"
  pub grid : LineIs s 0 (line_text (bytes_of "grid") (h.shape.rows ∷ h.shape.columns ∷ h.rules.square_side ∷ []))
  -- "`run` q shortest longest U end", then e and the edition
  pub run : LineIs s 1
      (line_text (bytes_of "run")
      (h.rules.tolerance
      ∷ h.rules.shortest
      ∷ h.rules.longest
      ∷ h.rules.update
      ∷ h.end
      ∷ h.rules.edge
      ∷ h.rules.edition
      ∷ []))
  -- "mark `x`, `o` or `e`", "0 closed, 1 open, 2 exit", and no other; "an `x` line ends after its mark"
  pub closed-cell : (i : ℕ) → i < squares h.shape → get_or held.cells.marks i 0 ≡ 0 → LineIs s (cell_lines + i) (place_of h i ++ bytes_of "\tx\n")
  pub open-cell : (i : ℕ) → i < squares h.shape → get_or held.cells.marks i 0 ≡ 1 → LineIs s (cell_lines + i) (place_of h i ++ (bytes_of "\to" ++ rest_text (ground_in held i)))
  pub exit_cell : (i : ℕ) → i < squares h.shape → get_or held.cells.marks i 0 ≡ 2 → LineIs s (cell_lines + i) (place_of h i ++ (bytes_of "\te" ++ rest_text (ground_in held i)))
  pub no_other_mark : (i : ℕ) → i < squares h.shape → get_or held.cells.marks i 0 ≤ 2
  -- "Rain rows: from, to, rate"
  pub rain : (j : ℕ) → j < h.rain_rows →
      LineIs s (rain_lines h + j)
      (line_text (bytes_of "rain") (get_or held.rain (3 * j) 0 ∷ get_or held.rain (3 * j + 1) 0 ∷ get_or held.rain (3 * j + 2) 0 ∷ []))
  -- "Inflow rows: row, column, from, to, litres"
  pub inflow : (j : ℕ) → j < h.inflow_rows →
      LineIs s (inflow_lines h + j)
      (line_text (bytes_of "inflow")
      (get_or held.inflow (5 * j) 0
      ∷ get_or held.inflow (5 * j + 1) 0
      ∷ get_or held.inflow (5 * j + 2) 0
      ∷ get_or held.inflow (5 * j + 3) 0
      ∷ get_or held.inflow (5 * j + 4) 0
      ∷ []))
  -- no line follows them
  pub no_other_line : drop (line_from s 0 (inflow_lines h + h.inflow_rows)) s ≡ []
  -- all of it: the sheet is what would be written
  pub whole : s ≡ sheet_written h held

-- rooms that hold the same for a heading: at its squares, but for what closed ones hold, and in its rows
pub record SaysSame (h : Heading) (a b : Rooms) : Type 0 where
  pub marks : (i : ℕ) → i < squares h.shape → get_or a.cells.marks i 0 ≡ get_or b.cells.marks i 0
  pub beds : (i : ℕ) → i < squares h.shape → closed a.cells.marks i ≡ false → get_or a.cells.beds i 0 ≡ get_or b.cells.beds i 0
  pub roughness : (i : ℕ) → i < squares h.shape → closed a.cells.marks i ≡ false → get_or a.cells.roughness i 0 ≡ get_or b.cells.roughness i 0
  pub rates : (i : ℕ) → i < squares h.shape → closed a.cells.marks i ≡ false → get_or a.cells.rates i 0 ≡ get_or b.cells.rates i 0
  pub depths : (i : ℕ) → i < squares h.shape → closed a.cells.marks i ≡ false → get_or a.cells.depths i 0 ≡ get_or b.cells.depths i 0
  pub rain : (m : ℕ) → m < 3 * h.rain_rows → get_or a.rain m 0 ≡ get_or b.rain m 0
  pub inflow : (m : ℕ) → m < 5 * h.inflow_rows → get_or a.inflow m 0 ≡ get_or b.inflow m 0

pub record SheetTold : Type 0 where
  -- of the heading and the rooms that the loader gives
  pub read : (s : List ℕ) (before after : Rooms) (h : Heading) → Reads s before (Read h) after → SheetFields s h after
  -- of what `meadow` runs on
  pub run_on : (s : List ℕ) (lent : Rooms) (h : Heading) → sheet_of s lent ≡ Read h → SheetFields s h (said s)
  -- nothing of a sheet is lost: two that say the same are the same text
  pub one_text : (s t : List ℕ) (before after other-before other_after : Rooms) (h : Heading) → Reads s before (Read h) after →
      Reads t other-before (Read h) other_after → SaysSame h after other_after → s ≡ t

-- ---- what is printed

-- what a printed world tells of another that is printed alike
pub record WorldTold (p : Plan) (d e : List ℕ) (u v : Run) (steps others : ℕ) : Type 0 where
  pub depths : (i : ℕ) → i < squares p.shape → closed p.marks i ≡ false → get_or d i 0 ≡ get_or e i 0
  pub outflow : u.outflow ≡ v.outflow
  pub soaked : u.soaked ≡ v.soaked
  pub steps_same : steps ≡ others
  pub clock : u.clock ≡ v.clock

pub record AnswerTold : Type 0 where
  -- "each square not closed with its depth, then outflow, steps made, clock", and "`soak` and the total on a line after `out`"
  pub world : (p : Plan) (depths : List ℕ) (u : Run) (steps : ℕ) →
      made_text p depths u steps
      ≡ joined (squares p.shape) (λ i. pick (closed p.marks i) [] (line_text (bytes_of "cell") (i / p.shape.columns ∷ i % p.shape.columns ∷ get_or depths i 0 ∷ [])))
      ++ (line_text (bytes_of "out") (u.outflow ∷ [])
      ++ (line_text (bytes_of "soak") (u.soaked ∷ []) ++ (line_text (bytes_of "steps") (steps ∷ []) ++ line_text (bytes_of "clock") (u.clock ∷ []))))
  -- "A refusal prints only `refused`, number, line"
  pub refusal : (number line : ℕ) → refused_text number line ≡ line_text (bytes_of "refused") (number ∷ line ∷ [])
  -- what is printed alike is alike
  pub world-told : (p : Plan) (d e : List ℕ) (u v : Run) (steps others : ℕ) → made_text p d u steps ≡ made_text p e v others → WorldTold p d e u v steps others
  pub refusal-told : (number line other-number other_line : ℕ) → refused_text number line ≡ refused_text other-number other_line →
      (number ≡ other-number) × (line ≡ other_line)
  -- and no world is printed as a refusal is
  pub never_both : (p : Plan) (d : List ℕ) (u : Run) (steps number line : ℕ) → made_text p d u steps ≡ refused_text number line → ⊥
