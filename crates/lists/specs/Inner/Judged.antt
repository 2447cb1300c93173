-- One sheet judged and taken: what the inner functions give one another.
-- Assumes nothing.
use Rattle.std.specs.Prelude.{◌≡◌, Bool, true, List, ℕ, ◌+◌, ◌≤◌, get_or, set, take}
use Rattle.reckon.specs.Tests.{pick}
use Rattle.reckon.specs.Lists.{placed}
use Rattle.grid.specs.Squares.{ShapeInRange, squares}
use Rattle.grid.specs.Marks.{closed}
use Rattle.grid.specs.declared.squares.Shape.{Shape}
use Rattle.ledger.specs.Runs.{Plan, plan}
use Rattle.sheet.specs.Sheet.{Rooms, plan_in}
use Rattle.sheet.specs.declared.reading.Heading.{Heading}
use Rattle.programs.specs.Program.{program_squares, sheet_run}
use Rattle.peaks.specs.Highest.{peaks_in}
use Rattle.lists.specs.Sheets.{File, file_number, file_plan, file_peaks, same_plan}
use Rattle.lists.specs.Tally.{count_with, gives, counts_with, deepest_with, places_with}
use Rattle.lists.specs.declared.judging.Judged.{Judged}
use Rattle.lists.specs.declared.merging.Merging.{Merging}
use Rattle.lists.specs.declared.tally.Tally.{Tally}

-- ---- one sheet judged

abbrev pub refused_with : ℕ → Judged
refused_with number = record { number = number; shape = record { rows = 0; columns = 0 } }

-- a sheet that was read into rooms; where it is accepted, its peaks lie at the start of their room
pub record RunsJudged (begun : Bool) (q : Plan) (h : Heading) (held : Rooms) (a : Judged) (peaks : List ℕ) : Type 0 where
  pub number_is : a.number ≡ pick (pick begun (same_plan (plan_in h.shape h.rules held) q) true) (sheet_run h held).number 14
  pub shape_is : a.number ≡ 0 → a.shape ≡ h.shape
  pub like_first : a.number ≡ 0 → begun ≡ true → h.shape ≡ q.shape
  pub peaks_are : a.number ≡ 0 → take (squares h.shape) peaks ≡ peaks_in h held

-- the sheet's number; where it is accepted, its shape, and its marks and peaks at the start of their rooms
pub record Judges (begun : Bool) (q : Plan) (f : File) (a : Judged) (marks peaks : List ℕ) : Type 0 where
  pub number_is : a.number ≡ file_number begun q f
  pub shape_is : a.number ≡ 0 → a.shape ≡ (file_plan f).shape
  pub like_first : a.number ≡ 0 → begun ≡ true → a.shape ≡ q.shape
  pub in_range : a.number ≡ 0 → ShapeInRange a.shape
  pub few : a.number ≡ 0 → squares a.shape ≤ program_squares
  pub marks_are : a.number ≡ 0 → take (squares a.shape) marks ≡ (file_plan f).marks
  pub peaks_are : a.number ≡ 0 → take (squares a.shape) peaks ≡ file_peaks f

-- ---- one accepted sheet more

-- in one square; a closed one stays
pub record MergesSquare
    (m : Merging) (i : ℕ) (marks peaks counts deepest places counts' deepest' places' : List ℕ) : Type 0 where
  pub counts_are :
      counts' ≡ pick (closed marks i) counts (set counts i (count_with m.wet (get_or peaks i 0) (pick m.begun (get_or counts i 0) 0)))
  pub deepest_are :
      deepest'
      ≡ pick (closed marks i) deepest (pick (gives m.begun (get_or deepest i 0) (get_or peaks i 0)) (set deepest i (get_or peaks i 0)) deepest)
  pub places_are :
      places' ≡ pick (closed marks i) places (pick (gives m.begun (get_or deepest i 0) (get_or peaks i 0)) (set places i m.place) places)

-- in every square
pub record Merges (p : Plan) (begun : Bool) (wet place : ℕ) (peaks counts deepest places counts' deepest' places' : List ℕ) : Type 0 where
  pub counts_are : counts' ≡ counts_with p begun wet place peaks counts
  pub deepest_are : deepest' ≡ deepest_with p begun wet place peaks deepest
  pub places_are : places' ≡ places_with p begun wet place peaks deepest places

-- ---- the tally

-- after one name more, and where there is room for no more
abbrev pub one_more : Tally → Bool → Shape → ℕ → Tally
one_more t begun shape number = record { wet = t.wet; taken = t.taken + 1; begun = begun; shape = shape; number = number }

abbrev pub full_tally : Tally → Tally
full_tally t = record { wet = t.wet; taken = t.taken; begun = t.begun; shape = t.shape; number = 16 }

-- one accepted sheet more, of whose rooms the parts that belong to it are given
pub record TakesAccepted
    (t : Tally) (shape : Shape) (sheet_marks peaks marks counts deepest places : List ℕ) (a : Tally) (marks' counts' deepest' places' : List ℕ) :
    Type 0 where
  pub tally_is : a ≡ one_more t true shape 0
  pub marks_are : marks' ≡ pick t.begun marks (placed marks 0 sheet_marks)
  pub merges : Merges (plan shape marks') t.begun t.wet (t.taken + 1) peaks counts deepest places counts' deepest' places'
