-- Document 02, #104, and the letter's demands of a set that is moved back.
-- Assumes nothing.
use Rattle.std.specs.Prelude.{◌≡◌, List, ◌∷◌, ℕ, eqb}
use Rattle.reckon.specs.Tests.{Row, pick, ◌unless◌}
use Rattle.grid.specs.Squares.{most_squares}
use Rattle.checks.specs.Refusals.{run_checks}
use Rattle.sheet.specs.Sheet.{line_two, shape_of, plan_in, given_in, start_in, heading_of}
use Rattle.sheet.specs.Written.{sheet_written}
use Rattle.sheet.specs.declared.reading.Sheet.TheVariants.{Refused}
use Rattle.programs.specs.Reading.{sheet_within, empty_rooms}
use Rattle.survey.specs.Sets.{Set, set_bad, all_agree, set_says, most_file, Outcome, to_survey, all_short, from_survey}
use Rattle.survey.specs.Sets.Outcome.{moved, refused}
use Rattle.survey.specs.Moving.{MovesSet}
use Rattle.survey.specs.declared.moving.Moved.{Moved}
use Rattle.demands.specs.Table.{TableSays}

-- "text that can't be read .. is 12 ..; then files that disagree .. are 14; then 1 to 5 as for a sheet"
abbrev pub set_rows : Set → List Row
set_rows t =
    let shape = shape_of t.note in
    let rules = (line_two t.note).rules in
    12 unless all_short t
    ∷ 12 unless eqb (set_bad t) 0
    ∷ 14 unless all_agree t
    ∷ run_checks (plan_in shape rules (set_says t)) (given_in shape rules (set_says t)) (line_two t.note).end (start_in shape rules (set_says t))

-- the number of an outcome, 0 for none
abbrev pub number_of : {A : Type 0} → Outcome A → ℕ
number_of (moved a) = 0
number_of (refused number line) = number

pub record SetsRight : Type 0 where
  -- "refuses by one number exactly when the table says"
  pub exactly_when : (t : Set) → TableSays (set_rows t) (number_of (from_survey t))
  pub never_none : (t : Set) (line : ℕ) → from_survey t ≡ refused 0 line → ⊥
  -- "with its line (note first, then bed, depth, roughness)", and 0 for a file that is too long and for every other number
  pub its_line : (t : Set) (number line : ℕ) → from_survey t ≡ refused number line → line ≡ pick (all_short t) (set_bad t) 0
  -- "and everything lent stay as they were"
  pub refusals_leave : (t : Set) (old new : List ℕ) (a : Moved) → MovesSet t old a new → (number_of (from_survey t) ≡ 0 → ⊥) → new ≡ old
  -- else it is the sheet that says what the set says
  pub moves : (t : Set) → number_of (from_survey t) ≡ 0 → from_survey t ≡ moved (sheet_written (heading_of t.note) (set_says t))
  -- a sheet is refused by its reader's number and line
  pub sheet_refused :
      (s : List ℕ) (number line : ℕ) → sheet_within most_file s (empty_rooms most_squares) ≡ Refused number line → to_survey s ≡ refused number line
