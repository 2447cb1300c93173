-- Document 02, #114: a list that is taken name by name ends in the document's list, whatever lay in the rooms before.
-- Assumes nothing.
use Rattle.std.specs.Prelude.{◌≡◌, false, List, [], ◌∷◌, ℕ, ◌<◌, length, get_or}
use Rattle.grid.specs.Squares.{squares}
use Rattle.ledger.specs.Flows.{shut}
use Rattle.programs.specs.Program.{program_squares}
use Rattle.lists.specs.Names.{most_sheets}
use Rattle.lists.specs.Sheets.{File}
use Rattle.lists.specs.Drowned.{drowned, deepest_of, first_gave, first_plan, sheets_run, drowned_text}
use Rattle.lists.specs.Tally.{Rooms, beginning, tally_after, rooms_after, tally_text}
use Rattle.lists.specs.declared.tally.Tally.{Tally}

-- one name after the other
unfoldable pub taken : List File → Tally × Rooms → Tally × Rooms
taken [] kept = kept
taken (f ∷ rest) kept = taken rest (tally_after kept.0 f kept.1, rooms_after kept.0 f kept.1)

-- rooms of the program's sizes
pub record RoomsLong (r : Rooms) : Type 0 where
  pub marks_long : length r.marks ≡ program_squares
  pub counts_long : length r.counts ≡ program_squares
  pub deepest_long : length r.deepest ≡ program_squares
  pub places_long : length r.places ≡ program_squares
  pub numbers_long : length r.numbers ≡ most_sheets

-- from the depth, all names of a list and rooms with anything in them
module _ (wet : ℕ) (files : List File) (r : Rooms) where
  abbrev pub ending : Tally × Rooms
  ending = taken files (beginning wet, r)

  -- what the rooms hold of a square is "how many sheets had it at least that deep", "the deepest value", and the place "that first gave it"
  pub record SquareRight (i : ℕ) : Type 0 where
    pub count_is : get_or ending.1.counts i 0 ≡ drowned i wet (sheets_run wet files)
    pub deepest_is : get_or ending.1.deepest i 0 ≡ deepest_of i (sheets_run wet files)
    pub place_is : get_or ending.1.places i 0 ≡ first_gave i (sheets_run wet files)

  -- at the end of a list of "up to 200 sheets"
  pub record ListRight : Type 0 where
    pub printed : tally_text ending.0 ending.1 ≡ drowned_text wet files
    pub counted : (i : ℕ) → i < squares (first_plan wet files).shape → shut (first_plan wet files) i ≡ false → SquareRight i
    pub wet_is : ending.0.wet ≡ wet
    pub taken_is : ending.0.taken ≡ length files
    pub long : RoomsLong ending.1
