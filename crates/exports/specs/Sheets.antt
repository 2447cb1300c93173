-- What the exported reading of a sheet, and the whole of `meadow`, give.
-- Assumes nothing.
use Rattle.std.specs.Prelude.{◌≡◌, Bool, List, [], ◌∷◌, ℕ, leb, length}
use Rattle.reckon.specs.Tests.{every, pick}
use Rattle.reckon.specs.Lists.{placed}
use Rattle.sheet.specs.Sheet.{Rooms, sheet_of, rooms_after}
use Rattle.programs.specs.Program.{meadow_text, most_printed}
use Rattle.sheet.specs.declared.reading.Sheet.{Sheet}
use Rattle.sheet.specs.declared.reading.Sheet.TheVariants.{Read, Refused}
use Rattle.exports.specs.Numbers.{heading_numbers, heading_size, line_size, sized}
use Rattle.exports.specs.Refusals.{number_if}

unfoldable pub sheet_number : Sheet → ℕ
sheet_number (Read h) = 0
sheet_number (Refused number line) = number

-- "12 with its number from 1", else 0
unfoldable pub sheet_line : Sheet → ℕ
sheet_line (Read h) = 0
sheet_line (Refused number line) = line

-- the heading of a sheet that was read; else the slice stays
unfoldable pub heading_in : Sheet → List ℕ → List ℕ
heading_in (Read h) old = heading_numbers h
heading_in (Refused number line) old = old

module _ (s : List ℕ) (before : Rooms) (old_heading old_line : List ℕ) where
  abbrev pub sheet_sized : Bool
  sheet_sized = every (sized old_heading heading_size ∷ sized old_line line_size ∷ [])

  pub record ExportsRead (number : ℕ) (after : Rooms) (heading line : List ℕ) : Type 0 where
    pub number_is : number ≡ number_if sheet_sized (sheet_number (sheet_of s before))
    pub rooms_are : after ≡ pick sheet_sized (rooms_after s (sheet_of s before) before) before
    pub heading_is : heading ≡ pick sheet_sized (heading_in (sheet_of s before) old_heading) old_heading
    pub line_is : line ≡ pick sheet_sized (sheet_line (sheet_of s before) ∷ []) old_line

-- the printed text at the start of a room that always suffices, and its length; a lesser room stays, and 0 is given
module _ (s old : List ℕ) where
  abbrev pub out_sized : Bool
  out_sized = leb most_printed (length old)

  pub record ExportsMeadow (long : ℕ) (out : List ℕ) : Type 0 where
    pub long_is : long ≡ pick out_sized (length (meadow_text s)) 0
    pub out_is : out ≡ pick out_sized (placed old 0 (meadow_text s)) old
