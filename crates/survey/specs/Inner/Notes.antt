-- What the functions that read a note and a set give one another. No public promise names these.
-- Assumes nothing.
use Rattle.std.specs.Prelude.{◌≡◌, Bool, true, not, List, [], ℕ, ◌+◌, ◌*◌, ◌≤◌, min, length, eqb, ltb}
use Rattle.reckon.specs.Tests.{pick, all_below, first_failing}
use Rattle.reckon.specs.Lists.{tabulate}
use Rattle.reckon.specs.Ranges.{most_table_rows}
use Rattle.reckon.specs.Tables.{rain_kind, inflow_kind}
use Rattle.grid.specs.Squares.{ShapeInRange, squares}
use Rattle.grid.specs.declared.squares.Shape.{Shape}
use Rattle.text.specs.Reading.{word_at, line_from}
use Rattle.raster.specs.Raster.{is_shut, entry_from}
use Rattle.raster.specs.declared.amounts.Scale.{Scale}
use Rattle.raster.specs.declared.amounts.Scale.TheVariants.{Metres, Whole}
use Rattle.sheet.specs.Lines.{rain_word, inflow_word}
use Rattle.sheet.specs.Sheet.{Rooms, rooms, table_rows, checks_in, has_one, shape_of, cells_at, rain_at, rain_rows, inflow_at, inflow_rows, heading_of}
use Rattle.sheet.specs.declared.reading.Heading.{Heading}
use Rattle.sheet.specs.declared.rooms.Scan.{Scan}
use Rattle.sheet.specs.Written.{sheet_written}
use Rattle.programs.specs.Inner.Held.{parts_of}
use Rattle.survey.specs.Sets.{Set, five_files, mark_line, note_mark, note_bad, set_bad, all_agree, column, Outcome}
use Rattle.survey.specs.Sets.Outcome.{moved, refused}
use Rattle.survey.specs.Inner.Writing.{Writable}
use Rattle.survey.specs.declared.notes.Note.{Note}

-- the mark of the line at p, read as that of square i: 3 where it is no such line
unfoldable pub mark_at : List ℕ → ℕ → ℕ → ℕ → ℕ
mark_at s p columns i = first_failing 3 (λ mark. not (word_at s p (mark_line columns i mark)))

-- the mark of square i, the first square's line being at p; how many can be read before the first that cannot
abbrev pub mark_from : List ℕ → ℕ → ℕ → ℕ → ℕ
mark_from s p columns i = mark_at s (line_from s p i) columns i

abbrev pub marks_from : List ℕ → ℕ → Shape → ℕ
marks_from s p shape = first_failing (squares shape) (λ i. ltb (mark_from s p shape.columns i) 3)

-- lines of squares counted from p on
pub record MarksCounted (s : List ℕ) (p : ℕ) (shape : Shape) (r : Scan) : Type 0 where
  pub count_is : r.count ≡ marks_from s p shape
  pub next_is : r.next ≡ line_from s p r.count
  pub passed : p + r.count ≤ r.next

-- a note that can be read: its heading, and where its squares and tables start
pub record NoteIs (s : List ℕ) (r : Note) : Type 0 where
  pub one_found : has_one s ≡ true
  pub heading_is : r.heading ≡ heading_of s
  pub cells_at_is : r.cells_at ≡ cells_at s
  pub rain_at_is : r.rain_at ≡ rain_at s
  pub inflow_at_is : r.inflow_at ≡ inflow_at s

pub record NoteRead (s : List ℕ) (r : Note) : Type 0 where
  pub bad_is : r.bad ≡ note_bad s
  pub note_is : r.bad ≡ 0 → NoteIs s r

-- a square is closed in a grid as it is in the note
unfoldable pub closed_same : Bool → ℕ → Bool
closed_same closed mark = pick closed (eqb mark 0) (not (eqb mark 0))

-- so are all, the first square's line being at q in the note and the first square at p in the grid
unfoldable pub closed_agree : List ℕ → ℕ → Scale → List ℕ → ℕ → Shape → Bool
closed_agree note q k grid p shape =
    all_below (squares shape) (λ i. closed_same (is_shut (entry_from k grid p shape.columns i)) (mark_from note q shape.columns i))

-- of a set only the note matters where one grid is compared with it
abbrev pub noted : List ℕ → Set
noted note = five_files note [] [] [] []

-- of a table as many rows are looked at: one too many is enough to refuse it
abbrev pub looked_rows : ℕ
looked_rows = most_table_rows + 1

unfoldable pub looked_heading : Heading → Heading
looked_heading h =
    record {
      shape = h.shape;
      rules = h.rules;
      end = h.end;
      rain_rows = min h.rain_rows looked_rows;
      inflow_rows = min h.inflow_rows looked_rows;
    }

-- what rooms hold can be written where their checks pass
abbrev pub Judged : Heading → Rooms → Type 0
Judged h held = checks_in h.shape h.rules held h.end ≡ 0 → Writable h held

-- the number of the check that fails, or the sheet
unfoldable pub judged_text : Heading → Rooms → Outcome (List ℕ)
judged_text h held =
    pick (eqb (checks_in h.shape h.rules held h.end) 0) (moved (sheet_written h held))
    (refused (checks_in h.shape h.rules held h.end) 0)

-- rooms of which the parts that belong to a heading can be judged, and written where their checks pass
pub record Lies (h : Heading) (held : Rooms) : Type 0 where
  pub shape : ShapeInRange h.shape
  pub marks : squares h.shape ≤ length held.cells.marks
  pub beds : squares h.shape ≤ length held.cells.beds
  pub roughness : squares h.shape ≤ length held.cells.roughness
  pub rates : squares h.shape ≤ length held.cells.rates
  pub depths : squares h.shape ≤ length held.cells.depths
  pub rain_few : h.rain_rows ≤ looked_rows
  pub inflow_few : h.inflow_rows ≤ looked_rows
  pub rain : rain_kind.width * h.rain_rows ≤ length held.rain
  pub inflow : inflow_kind.width * h.inflow_rows ≤ length held.inflow
  pub judged : Judged h (parts_of h held)

-- a set whose text, closed squares and shape are good
pub record SetGood (t : Set) : Type 0 where
  pub text : set_bad t ≡ 0
  pub agree : all_agree t ≡ true
  pub shape : ShapeInRange (shape_of t.note)

-- what it says, of its tables the rows that are looked at
unfoldable pub looked_says : Set → Rooms
looked_says t =
    rooms (tabulate (squares (shape_of t.note)) (note_mark t.note)) (column t Metres t.bed) (column t Whole t.roughness)
    (column t Whole t.rate) (column t Metres t.depth)
    (table_rows t.note (rain_at t.note) rain_word rain_kind.width (min (rain_rows t.note) looked_rows))
    (table_rows t.note (inflow_at t.note) inflow_word inflow_kind.width (min (inflow_rows t.note) looked_rows))
