-- What the caller of the calls for the highest water and for lists of sheets has, in document 02's words (#114).
-- Assumes nothing.
use Rattle.std.specs.Prelude.{◌≡◌, true, false, List, [], ◌∷◌, ◌++◌, ℕ, ◌+◌, ◌≤◌, ◌<◌, leb, length, get_or, take, drop}
use Rattle.reckon.specs.Tests.{◌unless◌}
use Rattle.reckon.specs.Ranges.{most_depth}
use Rattle.reckon.specs.Most.{most_over, first_most, MostIs}
use Rattle.grid.specs.Squares.{squares}
use Rattle.ledger.specs.Runs.{Plan, World}
use Rattle.ledger.specs.Flows.{shut}
use Rattle.checks.specs.Given.{Given}
use Rattle.flood.specs.Run.{steps_on}
use Rattle.flood.specs.declared.run.Ran.{Ran}
use Rattle.text.specs.Reading.{number, number_at, is_byte, newline}
use Rattle.programs.specs.Program.{most_text}
use Rattle.peaks.specs.Peaks.{depth_after, peak_rows, peak_checks}
use Rattle.peaks.specs.Highest.{highest_text}
use Rattle.lists.specs.Names.{most_sheets, list_refused, names_from}
use Rattle.lists.specs.Sheets.{File}
use Rattle.lists.specs.Drowned.{drowned_text}
use Rattle.lists.specs.Tally.{Rooms, beginning}
use Rattle.lists.specs.Right.{RoomsLong, taken, ListRight}
use Rattle.lists.specs.declared.names.Listed.{Listed}
use Rattle.lists.specs.declared.tally.Tally.{Tally}
use Rattle.demands.specs.Table.{FirstFails, TableSays}
use Rattle.calls.specs.Library.{AfterRun}

-- ---- a run with its peaks

-- "the deepest value" of square i "at any state of the run", n steps long, and the clock of the first state that had it
pub record PeakIs (p : Plan) (g : Given) (w : World) (n i peak clock : ℕ) : Type 0 where
  pub most : MostIs n (depth_after p g w i)
  pub peak_is : peak ≡ most_over n (depth_after p g w i)
  pub clock_is : clock ≡ (steps_on p g (first_most n (depth_after p g w i)) w).run.clock

-- v is the world that it left
pub record AfterPeaks (p : Plan) (g : Given) (end : ℕ) (w : World) (peaks clocks : List ℕ) (a : Ran) (v : World) (peaks' clocks' : List ℕ) : Type 0 where
  -- the first row that applies refuses it with no step made, and all is as it was
  pub exactly_when :
      (n : ℕ) → FirstFails (peak_rows p g end w peaks clocks) n →
      (a.refused ≡ n) × (a.steps ≡ 0) × (v ≡ w) × (peaks' ≡ peaks) × (clocks' ≡ clocks)
  -- else it is the plain run
  pub same_run : peak_checks p g end w peaks clocks ≡ 0 → AfterRun p g end w a v
  -- and each square not closed has the deepest value of the states that it came to
  pub highest :
      peak_checks p g end w peaks clocks ≡ 0 → (i : ℕ) → i < squares p.shape → shut p i ≡ false →
      PeakIs p g w a.steps i (get_or peaks' i 0) (get_or clocks' i 0)

-- what is printed of one sheet
pub record AfterHighest (s old new : List ℕ) (long : ℕ) : Type 0 where
  pub printed : take long new ≡ highest_text s
  pub rest_stays : drop long new ≡ drop long old

-- ---- a list

-- "a depth on its first line": the number that a text begins with, and its newline at q
pub record FirstLine (s : List ℕ) (wet q : ℕ) : Type 0 where
  pub read : number_at s 0 ≡ number wet q
  pub ended : is_byte s q newline ≡ true

-- what is told of a list whose first line was read: the depth, the names after it, and "a depth out of range is 5; over 200 sheets is 16"
pub record ListTold (wet names : ℕ) (a : Listed) : Type 0 where
  pub depth_is : a.wet ≡ wet
  pub names_are : a.names ≡ names
  pub no_line : a.line ≡ 0
  pub exactly_when : TableSays (5 unless leb wet most_depth ∷ 16 unless leb names most_sheets ∷ []) a.number

pub record AfterList (s : List ℕ) (a : Listed) : Type 0 where
  -- a list of too many bytes is 12, line 0
  pub too_long : most_text < length s → a ≡ list_refused 0
  -- "a first line that can't be read is 12, line 1"
  pub not-read : length s ≤ most_text → ((wet q : ℕ) → FirstLine s wet q → ⊥) → a ≡ list_refused 1
  -- any other list is told
  pub told : length s ≤ most_text → (wet q : ℕ) → FirstLine s wet q → ListTold wet (names_from s (q + 1)) a
  -- so that one with number 0 has "a depth" in range and "up to 200 sheets"
  pub depth_in_range : a.number ≡ 0 → a.wet ≤ most_depth
  pub names_few : a.number ≡ 0 → a.names ≤ most_sheets

-- where a list stands after so many names: begun by one call, with one more for each, in rooms that held anything
pub record Stands (wet : ℕ) (files : List File) (t : Tally) (r : Rooms) : Type 0 where
  pub before : Rooms
  pub long : RoomsLong before
  pub stands : taken files (beginning wet, before) ≡ (t, r)

abbrev pub AfterBeginning : ℕ → Tally → Type 0
AfterBeginning wet a = (r : Rooms) → RoomsLong r → Stands wet [] a r

abbrev pub AfterSheet : Tally → File → Rooms → Tally → Rooms → Type 0
AfterSheet t f r a after = (wet : ℕ) (files : List File) → Stands wet files t r → Stands wet (files ++ (f ∷ [])) a after

-- so what is printed at the end is the document's list, whatever the names came to, and the rooms hold what it says of each square
pub record AfterDrowned (t : Tally) (r : Rooms) (new : List ℕ) (long : ℕ) : Type 0 where
  pub printed : (wet : ℕ) (files : List File) → length files ≤ most_sheets → Stands wet files t r → take long new ≡ drowned_text wet files
  pub right : (wet : ℕ) (files : List File) → length files ≤ most_sheets → (s : Stands wet files t r) → ListRight wet files s.before
