-- The loader, which "took the walled wheel house for free ground, and let modelled water drain into it": the demands as they concern a sheet.
-- Assumes nothing.
use Rattle.std.specs.Prelude.{◌≡◌, true, false, List, ◌∷◌, ◌++◌, ℕ, ◌+◌, ◌/◌, ◌%◌, ◌≤◌, ◌<◌, eqb, length, get_or, drop}
use Rattle.reckon.specs.Tests.{Row, ◌unless◌}
use Rattle.grid.specs.Squares.{squares}
use Rattle.grid.specs.Marks.{closed}
use Rattle.grid.specs.declared.squares.Shape.{Shape}
use Rattle.checks.specs.Refusals.{run_checks}
use Rattle.flood.specs.Run.{run_to}
use Rattle.text.specs.Reading.{line_from}
use Rattle.sheet.specs.Lines.{x_letter}
use Rattle.sheet.specs.Sheet.{Cells, Rooms, Reads, has_one, line_one, line_two, shape_of, rooms_fine, bad_line, plan_in, given_in, start_in, said, sheet_of}
use Rattle.programs.specs.Program.{most_text, program_rooms, meadow_text}
use Rattle.answer.specs.Printed.{refused_text, made_text}
use Rattle.sheet.specs.declared.reading.Heading.{Heading}
use Rattle.sheet.specs.declared.reading.Sheet.TheVariants.{Read, Refused}
use Rattle.exports.specs.Sheets.{sheet_number, sheet_line}
use Rattle.demands.specs.Table.{rows_between, TableSays}
use Rattle.sheet.specs.Lines.{letter_of, line_head}

-- ---- demand 1: "A refusal gives one number from the table in document 01, exactly when that table says"

-- the rows of a run to the sheet's end, from a fresh run on what the sheet says
abbrev pub end_refusals : List ℕ → List Row
end_refusals s =
    run_checks (plan_in (shape_of s) (line_two s).rules (said s)) (given_in (shape_of s) (line_two s).rules (said s)) (line_two s).end
    (start_in (shape_of s) (line_two s).rules (said s))

-- "For a sheet the order is: line 1 read, shape (1, ..), the other text, then 2 to 5"
abbrev pub sheet_refusals : List ℕ → Rooms → List Row
sheet_refusals s lent =
    12 unless has_one s
    ∷ 1 unless rooms_fine (shape_of s) (line_one s).side lent
    ∷ 12 unless eqb (bad_line s) 0
    ∷ rows_between 2 5 (end_refusals s)

-- the number of a sheet, and its line: "12 with its number from 1", else 0
pub record SheetSays (s : List ℕ) (lent : Rooms) (number line : ℕ) : Type 0 where
  pub number_is : TableSays (sheet_refusals s lent) number
  pub first_line : has_one s ≡ false → line ≡ 1
  pub other_line : has_one s ≡ true → number ≡ 12 → line ≡ bad_line s
  pub no_line : (number ≡ 12 → ⊥) → line ≡ 0

-- what `meadow` prints: "more: 12, line 0"; "A refusal prints only `refused`, number, line (0 unless 12)"; else what the run left
pub record MeadowSays (s : List ℕ) : Type 0 where
  pub too_long : most_text < length s → meadow_text s ≡ refused_text 12 0
  pub not-read : length s ≤ most_text → (number line : ℕ) → sheet_of s program_rooms ≡ Refused number line → meadow_text s ≡ refused_text number line
  pub run-refused : length s ≤ most_text → (h : Heading) → sheet_of s program_rooms ≡ Read h →
      let end = run_to (plan_in h.shape h.rules (said s)) (given_in h.shape h.rules (said s)) h.end (start_in h.shape h.rules (said s)) in
      (end.number ≡ 0 → ⊥) → meadow_text s ≡ refused_text end.number 0
  pub run_made : length s ≤ most_text → (h : Heading) → sheet_of s program_rooms ≡ Read h →
      let end = run_to (plan_in h.shape h.rules (said s)) (given_in h.shape h.rules (said s)) h.end (start_in h.shape h.rules (said s)) in
      end.number ≡ 0 → meadow_text s ≡ made_text (plan_in h.shape h.rules (said s)) end.world.depths end.world.run end.steps

pub record LoaderRefuses : Type 0 where
  pub exactly_when : (s : List ℕ) (lent : Rooms) → SheetSays s lent (sheet_number (sheet_of s lent)) (sheet_line (sheet_of s lent))
  pub printed : (s : List ℕ) → MeadowSays s
  -- ".. and everything lent stay as they were"
  pub leaves : (s : List ℕ) (before after : Rooms) (number line : ℕ) → Reads s before (Refused number line) after → after ≡ before

-- ---- "I want walls that no water enters": the marks that are read are the sheet's letters

-- where it begins: the lines of the squares follow the first two
abbrev pub line_start : List ℕ → ℕ → ℕ
line_start s i = line_from s 0 (2 + i)

-- of a sheet that is read: each square's line has the letter of the mark that was stored for it; so an `x` is closed, and nothing else is
pub record MarksAreLetters (s : List ℕ) (shape : Shape) (marks : List ℕ) : Type 0 where
  pub spelled : (i : ℕ) → i < squares shape →
      drop (line_start s i) s ≡ line_head (i / shape.columns) (i % shape.columns) (get_or marks i 0) ++ drop (line_start s i + length (line_head (i / shape.columns) (i % shape.columns) (get_or marks i 0))) s
  pub x_is_closed : (i : ℕ) → i < squares shape → letter_of (get_or marks i 0) ≡ x_letter → closed marks i ≡ true
  pub closed_is_x : (i : ℕ) → i < squares shape → closed marks i ≡ true → letter_of (get_or marks i 0) ≡ x_letter

-- ---- demand 2, of a sheet

-- "What a closed square holds is not altered": the rooms at closed squares, and past the grid, hold what they held
pub record ClosedLeft (before after : Cells) : Type 0 where
  pub beds : (i : ℕ) → closed after.marks i ≡ true → get_or after.beds i 0 ≡ get_or before.beds i 0
  pub roughness : (i : ℕ) → closed after.marks i ≡ true → get_or after.roughness i 0 ≡ get_or before.roughness i 0
  pub rates : (i : ℕ) → closed after.marks i ≡ true → get_or after.rates i 0 ≡ get_or before.rates i 0
  pub depths : (i : ℕ) → closed after.marks i ≡ true → get_or after.depths i 0 ≡ get_or before.depths i 0

-- two sets of rooms, each as long as the other's
pub record AsLong (a b : Rooms) : Type 0 where
  pub marks : length a.cells.marks ≡ length b.cells.marks
  pub beds : length a.cells.beds ≡ length b.cells.beds
  pub roughness : length a.cells.roughness ≡ length b.cells.roughness
  pub rates : length a.cells.rates ≡ length b.cells.rates
  pub depths : length a.cells.depths ≡ length b.cells.depths
  pub rain : length a.rain ≡ length b.rain
  pub inflow : length a.inflow ≡ length b.inflow

pub record LoaderWalls : Type 0 where
  pub letters : (s : List ℕ) (before after : Rooms) (h : Heading) → Reads s before (Read h) after → MarksAreLetters s h.shape after.cells.marks
  pub none_altered : (s : List ℕ) (before after : Rooms) (h : Heading) → Reads s before (Read h) after → ClosedLeft before.cells after.cells
  -- "no answer depends on it": nor on anything that the rooms held, but for how long they are
  pub none_depends : (s : List ℕ) (a b : Rooms) → AsLong a b → sheet_of s a ≡ sheet_of s b
