-- Document 02, #114: one sheet of a list, what it is refused with, and the deepest of its squares.
-- Assumes nothing.
use Rattle.std.specs.Prelude.{Bool, true, List, [], ◌∷◌, ℕ, eqb, get_or}
use Rattle.reckon.specs.Tests.{pick, every, all_below}
use Rattle.grid.specs.Squares.{squares}
use Rattle.ledger.specs.Runs.{Plan, plan}
use Rattle.sheet.specs.Sheet.{plan_in, said, shape_of}
use Rattle.sheet.specs.declared.reading.Sheet.{Sheet}
use Rattle.sheet.specs.declared.reading.Sheet.TheVariants.{Read, Refused}
use Rattle.programs.specs.Reading.{sheet_within}
use Rattle.programs.specs.Program.{most_text, program_rooms, sheet_run}
use Rattle.peaks.specs.Highest.{peaks_in}

-- what came of a name: "a sheet that can't be opened", or its bytes
pub data File : Type 0 where
  not_opened : File
  holds : List ℕ → File

abbrev pub file_of : Bool → List ℕ → File
file_of opened s = pick opened (holds s) not_opened

-- "shape or marks differ"
unfoldable pub same_marks : ℕ → List ℕ → List ℕ → Bool
same_marks n a b = all_below n (λ i. eqb (get_or a i 0) (get_or b i 0))

unfoldable pub same_plan : Plan → Plan → Bool
same_plan p q =
    every
    (eqb p.shape.rows q.shape.rows
    ∷ eqb p.shape.columns q.shape.columns
    ∷ same_marks (squares p.shape) p.marks q.marks
    ∷ [])

-- `begun`: one was accepted before, and q is the first one's plan
module _ (begun : Bool) (q : Plan) where
  -- the reader's number; "one whose shape or marks differ from the first accepted one's with 14, before its run"; the run's own
  unfoldable pub sheet_number : List ℕ → Sheet → ℕ
  sheet_number s (Refused number line) = number
  sheet_number s (Read h) =
      pick (pick begun (same_plan (plan_in h.shape h.rules (said s)) q) true) (sheet_run h (said s)).number 14

  -- "a sheet that can't be opened counts as refused with 12"; "with `meadow`'s limits"
  unfoldable pub file_number : File → ℕ
  file_number not_opened = 12
  file_number (holds s) = sheet_number s (sheet_within most_text s program_rooms)

-- the grid of an accepted sheet
unfoldable pub file_plan : File → Plan
file_plan not_opened = plan (record { rows = 0; columns = 0 }) []
file_plan (holds s) = plan (shape_of s) (said s).cells.marks

-- "the deepest value" of each of its squares, over all states of its run to its end
unfoldable pub sheet_peaks : List ℕ → Sheet → List ℕ
sheet_peaks s (Refused number line) = []
sheet_peaks s (Read h) = peaks_in h (said s)

unfoldable pub file_peaks : File → List ℕ
file_peaks not_opened = []
file_peaks (holds s) = sheet_peaks s (sheet_within most_text s program_rooms)
