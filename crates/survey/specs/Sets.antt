-- Document 02, #104: "a set of three such grids (bed, depth, roughness index) with a note", and #106's "fourth grid of whole-number rates".
-- Assumes nothing.
use Rattle.std.specs.Prelude.{Bool, not, List, [], ◌∷◌, ◌++◌, ℕ, zero, suc, ◌+◌, ◌/◌, ◌%◌, eqb, ltb, leb, length, get_or}
use Rattle.reckon.specs.Tests.{pick, every, all_below, first_failing, ◌unless◌, refusal}
use Rattle.reckon.specs.Lists.{tabulate}
use Rattle.grid.specs.Squares.{most_squares, squares}
use Rattle.text.specs.Reading.{word_at, line_from}
use Rattle.text.specs.Writing.{rest_text}
use Rattle.raster.specs.Raster.{grid_text, head_in, value_of, is_shut, entry_of, grid_bad}
use Rattle.raster.specs.declared.amounts.Scale.{Scale}
use Rattle.raster.specs.declared.amounts.Scale.TheVariants.{Metres, Whole}
use Rattle.sheet.specs.Lines.{line_head}
use Rattle.sheet.specs.Sheet.{Rooms, rooms, has_one, has_two, line_one, line_two, shape_of, cells_at, rain_rows, rain_table, inflow_rows, inflow_table, after_all, first_cell, checks_in, said, heading_of, judged}
use Rattle.sheet.specs.Written.{lines_written, sheet_written}
use Rattle.sheet.specs.declared.reading.Heading.{Heading}
use Rattle.sheet.specs.declared.reading.Sheet.{Sheet}
use Rattle.sheet.specs.declared.reading.Sheet.TheVariants.{Read, Refused}
use Rattle.programs.specs.Reading.{sheet_within, empty_rooms}

-- the texts of a set's files
pub record Set : Type 0 where
  pub note : List ℕ
  pub bed : List ℕ
  pub depth : List ℕ
  pub roughness : List ℕ
  pub rate : List ℕ

abbrev pub five_files : List ℕ → List ℕ → List ℕ → List ℕ → List ℕ → Set
five_files n b d k r = record { note = n; bed = b; depth = d; roughness = k; rate = r }

-- ---- as it is written, of a sheet's heading and of what rooms hold

-- the line of square i in a note: "each `cell` line ended after its mark"
unfoldable pub mark_line : ℕ → ℕ → ℕ → List ℕ
mark_line columns i mark = line_head (i / columns) (i % columns) mark ++ rest_text []

module _ (h : Heading) (held : Rooms) where
  -- "a note (the sheet, each `cell` line ended after its mark)"
  unfoldable pub note_text : List ℕ
  note_text = lines_written h held (λ i. mark_line h.shape.columns i (get_or held.cells.marks i 0))

  -- "cellsize is D .., NODATA .. stands exactly at closed squares"
  abbrev pub column_text : Scale → List ℕ → List ℕ
  column_text k column = grid_text k h.shape held.cells.marks column h.rules.square_side

  -- "in metres with exactly six decimals"; "roughness is a whole number", and so is the rate
  unfoldable pub set_of : Set
  set_of =
      record {
        note = note_text;
        bed = column_text Metres held.cells.beds;
        depth = column_text Metres held.cells.depths;
        roughness = column_text Whole held.cells.roughness;
        rate = column_text Whole held.cells.rates;
      }

-- ---- a note as it is read: a sheet but for its squares' lines

module _ (s : List ℕ) where
  -- the mark of square i: that of the three whose line stands there, 3 where none does
  unfoldable pub note_mark : ℕ → ℕ
  note_mark i = first_failing 3 (λ mark. not (word_at s (line_from s (cells_at s) i) (mark_line (shape_of s).columns i mark)))

  -- how many squares' lines can be read before the first that cannot
  unfoldable pub marks_read : ℕ
  marks_read = first_failing (squares (shape_of s)) (λ i. ltb (note_mark i) 3)

  -- the first line that cannot be read or is missing, 0 where there is none
  unfoldable pub note_bad : ℕ
  note_bad =
      refusal
      (1 unless has_one s
      ∷ 2 unless has_two s
      ∷ (marks_read + first_cell) unless leb (squares (shape_of s)) marks_read
      ∷ (squares (shape_of s) + rain_rows s + inflow_rows s + first_cell) unless leb (length s) (after_all s)
      ∷ [])

-- ---- a set as it is read

-- the first number that is not 0, 0 where there is none
unfoldable pub first_of : List ℕ → ℕ
first_of [] = 0
first_of (zero ∷ ns) = first_of ns
first_of (suc n ∷ ns) = suc n

module _ (t : Set) where
  -- "12 with its line (note first, then bed, depth, roughness)", and then the rates: 0 where all can be read
  unfoldable pub set_bad : ℕ
  set_bad =
      first_of
      (note_bad t.note
      ∷ grid_bad Metres t.bed
      ∷ grid_bad Metres t.depth
      ∷ grid_bad Whole t.roughness
      ∷ grid_bad Whole t.rate
      ∷ [])

  -- a square is closed in a grid exactly where it is closed in the note
  unfoldable pub same_closed : Scale → List ℕ → ℕ → Bool
  same_closed k grid i = pick (is_shut (entry_of k grid i)) (eqb (note_mark t.note i) 0) (not (eqb (note_mark t.note i) 0))

  -- a grid and the note agree "in shape, cellsize [and] closed squares, the note's marks among them"
  unfoldable pub agrees : Scale → List ℕ → Bool
  agrees k grid =
      every
      (eqb (head_in grid).shape.rows (shape_of t.note).rows
      ∷ eqb (head_in grid).shape.columns (shape_of t.note).columns
      ∷ eqb (head_in grid).side (line_one t.note).side
      ∷ all_below (squares (shape_of t.note)) (same_closed k grid)
      ∷ [])

  unfoldable pub all_agree : Bool
  all_agree = every (agrees Metres t.bed ∷ agrees Metres t.depth ∷ agrees Whole t.roughness ∷ agrees Whole t.rate ∷ [])

  -- the numbers of a grid, 0 at closed squares
  unfoldable pub column : Scale → List ℕ → List ℕ
  column k grid = tabulate (squares (shape_of t.note)) (λ i. value_of (entry_of k grid i))

  -- what the set says, as rooms hold it
  unfoldable pub set_says : Rooms
  set_says =
      rooms (tabulate (squares (shape_of t.note)) (note_mark t.note)) (column Metres t.bed) (column Whole t.roughness)
      (column Whole t.rate) (column Metres t.depth) (rain_table t.note) (inflow_table t.note)

  -- "then files that disagree .. are 14; then 1 to 5 as for a sheet"
  unfoldable pub set_number : ℕ
  set_number = pick all_agree (checks_in (shape_of t.note) (line_two t.note).rules set_says (line_two t.note).end) 14

-- ---- there and back

-- the most bytes of a file: one that has more is 12, line 0, before all else
abbrev pub most_file : ℕ
most_file = 262_144

-- what comes of moving a sheet or a set, or a refusal's number and line
pub data Outcome (A : Type 0) : Type 0 where
  moved : A → Outcome A
  refused : ℕ → ℕ → Outcome A

-- "our sheets moved to a set": every sheet that the reader reads
unfoldable pub moved_out : List ℕ → Sheet → Outcome Set
moved_out s (Read h) = moved (set_of h (said s))
moved_out s (Refused number line) = refused number line

unfoldable pub to_survey : List ℕ → Outcome Set
to_survey s = moved_out s (sheet_within most_file s (empty_rooms most_squares))

-- "and moved back": the sheet that says what the set says
unfoldable pub moved_back : Set → Sheet → Outcome (List ℕ)
moved_back t (Read h) = moved (sheet_written h (set_says t))
moved_back t (Refused number line) = refused number line

unfoldable pub all_short : Set → Bool
all_short t =
    every
    (leb (length t.note) most_file
    ∷ leb (length t.bed) most_file
    ∷ leb (length t.depth) most_file
    ∷ leb (length t.roughness) most_file
    ∷ leb (length t.rate) most_file
    ∷ [])

-- the length of each file, all text, and then 14 and 1 to 5
unfoldable pub set_answer : Set → Sheet
set_answer t = pick (all_short t) (judged (set_bad t) (set_number t) (heading_of t.note)) (Refused 12 0)

unfoldable pub from_survey : Set → Outcome (List ℕ)
from_survey t = moved_back t (set_answer t)
