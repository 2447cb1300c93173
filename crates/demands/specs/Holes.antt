-- Document 02, #111: what is asked of a sheet that is repaired, and of its refusals.
-- Assumes nothing.
use Rattle.std.specs.Prelude.{◌≡◌, true, false, List, ◌++◌, ℕ, ◌≤◌, ◌<◌, length, get_or}
use Rattle.reckon.specs.Lists.{joined}
use Rattle.grid.specs.Squares.{squares}
use Rattle.grid.specs.Marks.{closed}
use Rattle.sheet.specs.Sheet.{shape_of, said, sheet_of}
use Rattle.sheet.specs.declared.reading.Heading.{Heading}
use Rattle.sheet.specs.declared.reading.Sheet.TheVariants.{Read, Refused}
use Rattle.answer.specs.Printed.{refused_text}
use Rattle.programs.specs.Program.{most_text, program_rooms}
use Rattle.holes.specs.Rounds.{no_bed, RoundsLaw}
use Rattle.holes.specs.Holes.{looked_at, is_hole, plugged}
use Rattle.holes.specs.Repaired.{marks_read, beds_read, seen_beds, beds_after, sheet_after, list_line, repair_text, other_beds, Repairs}
use Rattle.holes.specs.Worked.{RoundsWorked, RepairWorked}
use Rattle.exports.specs.Sheets.{sheet_number, sheet_line}
use Rattle.demands.specs.Loader.{SheetSays}

pub record RepairRight (s : List ℕ) : Type 0 where
  -- "Refusals: those of the ordinary reader", by its own table, of the text with `0` for each `?`
  pub exactly_when : SheetSays (plugged s) program_rooms (sheet_number (sheet_of (plugged s) program_rooms)) (sheet_line (sheet_of (plugged s) program_rooms))
  pub too_long : most_text < length s → repair_text s ≡ refused_text 12 0
  pub not-read :
      length s ≤ most_text → (number line : ℕ) → sheet_of (plugged s) program_rooms ≡ Refused number line → repair_text s ≡ refused_text number line
  -- "It writes the sheet, then for each `?` in square order a tab-parted line"
  pub written :
      length s ≤ most_text → (h : Heading) → sheet_of (plugged s) program_rooms ≡ Read h →
      repair_text s ≡ sheet_after s ++ joined (looked_at s) (list_line s (marks_read s) (beds_read s))
  -- "Nothing else in the sheet changes", "a sheet without `?` comes back byte for byte", and the ordinary reader's 12
  pub kept : Repairs s
  -- "fill them in rounds": the law of rounds holds of the sheet's own beds
  pub rounds : (h : Heading) → Read h ≡ sheet_of (plugged s) program_rooms → RoundsLaw (shape_of s) (marks_read s) (seen_beds s)
  -- where every `?` is reached, the ordinary reader reads the sheet that was written: all else as before, and the beds that were given
  pub reads_back :
      (h : Heading) → Read h ≡ sheet_of (plugged s) program_rooms →
      ((i : ℕ) → i < squares (shape_of s) → is_hole s i ≡ true → get_or (beds_after s) i 0 ≡ no_bed → ⊥) →
      (Read h ≡ sheet_of (sheet_after s) program_rooms)
      × ((said (sheet_after s) ≡ other_beds (said (plugged s)) (said (sheet_after s)).cells.beds)
      × ((i : ℕ) → i < squares (shape_of s) → closed (marks_read s) i ≡ false → get_or (said (sheet_after s)).cells.beds i 0 ≡ get_or (beds_after s) i 0))

pub record HolesRight : Type 0 where
  pub right : (s : List ℕ) → RepairRight s
  pub rounds_worked : RoundsWorked
  pub repair_worked : RepairWorked
