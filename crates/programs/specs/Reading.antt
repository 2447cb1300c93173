-- Document 01, "The sheet and its program": a sheet of at most so many bytes, read into rooms.
-- Assumes nothing.
use Rattle.std.specs.Prelude.{◌≡◌, List, ℕ, leb, length, replicate}
use Rattle.reckon.specs.Tests.{pick}
use Rattle.reckon.specs.Tables.{rain_kind, inflow_kind, table_room}
use Rattle.sheet.specs.Sheet.{Rooms, no_cells, sheet_of, rooms_after}
use Rattle.sheet.specs.declared.reading.Sheet.{Sheet}
use Rattle.sheet.specs.declared.reading.Sheet.TheVariants.{Refused}

-- "reads at most .. bytes (more: 12, line 0)"
unfoldable pub sheet_within : ℕ → List ℕ → Rooms → Sheet
sheet_within most s lent = pick (leb (length s) most) (sheet_of s lent) (Refused 12 0)

-- rooms of one number a square up to so many squares, so that the reader gives 1 above them; nothing is in them yet
abbrev pub empty_rooms : ℕ → Rooms
empty_rooms size =
    record {
      cells = no_cells size;
      rain = replicate (table_room rain_kind) 0;
      inflow = replicate (table_room inflow_kind) 0;
    }

-- ---- what the public function gives

pub record ReadsWithin (most : ℕ) (s : List ℕ) (before : Rooms) (a : Sheet) (after : Rooms) : Type 0 where
  pub answer : a ≡ sheet_within most s before
  pub rooms_are : after ≡ rooms_after s a before
