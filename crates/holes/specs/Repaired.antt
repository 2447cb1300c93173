-- Document 02, #111: what the repair tool prints of a text.
-- Assumes nothing.
use Rattle.std.specs.Prelude.{◌≡◌, true, false, List, [], ◌∷◌, ◌++◌, ℕ, ◌/◌, ◌%◌, ◌<◌, ◌≤◌, eqb, leb, length, get_or, take}
use Rattle.reckon.specs.Tests.{pick}
use Rattle.reckon.specs.Lists.{joined, tabulate}
use Rattle.grid.specs.Squares.{squares}
use Rattle.text.specs.Reading.{tab, newline}
use Rattle.text.specs.Writing.{decimal, field_text, rest_text, Wrote}
use Rattle.sheet.specs.Lines.{grid_line}
use Rattle.sheet.specs.Sheet.{Rooms, rooms, rooms_fine, line_one, shape_of, said, sheet_of}
use Rattle.sheet.specs.Written.{sheet_written}
use Rattle.sheet.specs.declared.reading.Heading.{Heading}
use Rattle.sheet.specs.declared.reading.Sheet.{Sheet}
use Rattle.sheet.specs.declared.reading.Sheet.TheVariants.{Read, Refused}
use Rattle.answer.specs.Printed.{refused_text}
use Rattle.programs.specs.Program.{most_text, program_rooms}
use Rattle.holes.specs.Rounds.{no_bed, filled_beds, round_filling, BedsSeen}
use Rattle.holes.specs.Holes.{question, hole_at, looked_at, start_of, is_hole, with_beds, plugged}

-- ---- the words of what is printed

-- a bed in the sheet: "Squares it cannot reach keep their `?`"
unfoldable pub bed_text : ℕ → List ℕ
bed_text bed = pick (eqb bed no_bed) (question ∷ []) (decimal bed)

-- "a tab-parted line: row, column, bed given, round"; "listed with `-` for bed and round"
unfoldable pub given_text : ℕ → ℕ → ℕ → ℕ → List ℕ
given_text row column bed turn =
    decimal row ++ (field_text column ++ pick (eqb bed no_bed) (tab ∷ 45 ∷ tab ∷ 45 ∷ newline ∷ []) (rest_text (bed ∷ turn ∷ [])))

-- "for each `?`": the line of the square whose line is at p, none where that has no `?`
unfoldable pub hole_text : List ℕ → ℕ → ℕ → ℕ → ℕ → ℕ → List ℕ
hole_text s p row column bed turn = pick (hole_at s p row column) (given_text row column bed turn) []

-- ---- the sheet and the list, by the marks and beds that the ordinary reader found

module _ (s marks beds : List ℕ) where
  -- the beds at the start: none where a `?` stands
  unfoldable pub seen_in : List ℕ
  seen_in = tabulate (squares (shape_of s)) (λ i. pick (is_hole s i) no_bed (get_or beds i 0))

  abbrev pub beds_in : List ℕ
  beds_in = filled_beds (shape_of s) marks seen_in

  -- the line of square i: "in square order"
  abbrev pub list_line : ℕ → List ℕ
  list_line i =
      hole_text s (start_of s i) (i / (shape_of s).columns) (i % (shape_of s).columns) (get_or beds_in i 0) (round_filling (shape_of s) marks seen_in i)

  -- "It writes the sheet, then for each `?` .."
  unfoldable pub repaired_with : List ℕ
  repaired_with = with_beds s (λ i. bed_text (get_or beds_in i 0)) ++ joined (looked_at s) list_line

module _ (s : List ℕ) where
  abbrev pub marks_read : List ℕ
  marks_read = (said (plugged s)).cells.marks

  abbrev pub beds_read : List ℕ
  beds_read = (said (plugged s)).cells.beds

  -- the beds before the first round and after the last, and the sheet that is written
  abbrev pub seen_beds : List ℕ
  seen_beds = seen_in s marks_read beds_read

  abbrev pub beds_after : List ℕ
  beds_after = beds_in s marks_read beds_read

  abbrev pub sheet_after : List ℕ
  sheet_after = with_beds s (λ i. bed_text (get_or beds_after i 0))

  -- "Refusals: those of the ordinary reader"
  unfoldable pub repaired_text : Sheet → List ℕ
  repaired_text (Read h) = repaired_with s marks_read beds_read
  repaired_text (Refused number line) = refused_text number line

-- "with `meadow`'s limits"
unfoldable pub repair_text : List ℕ → List ℕ
repair_text s = pick (leb (length s) most_text) (repaired_text s (sheet_of (plugged s) program_rooms)) (refused_text 12 0)

-- the bytes that always suffice for it
abbrev pub most_repaired : ℕ
most_repaired = 131_072

-- ---- what the public function gives

-- the text at the start of a room, where it fits; the rest of the room stays; the last two follow, and are what `&out[..r]` asks
pub record PrintsRepair (s old new : List ℕ) (r : ℕ) : Type 0 where
  pub wrote : Wrote (repair_text s) 0 old new r
  pub fits : length (repair_text s) ≤ most_repaired
  pub within : r ≤ length new
  pub counted : r ≡ length (take r new)

-- ---- laws

-- what rooms hold, with other beds
abbrev pub other_beds : Rooms → List ℕ → Rooms
other_beds held beds =
    rooms held.cells.marks beds held.cells.roughness held.cells.rates held.cells.depths held.rain held.inflow

pub record Repairs (s : List ℕ) : Type 0 where
  -- "Nothing else in the sheet changes": with `?` for each `?` it is the sheet
  pub nothing_else : with_beds s (λ i. question ∷ []) ≡ s
  -- lines 1 and 2 stay, whatever is put for the `?`
  pub line_one_stays : (f : ℕ → List ℕ) → grid_line (with_beds s f) ≡ grid_line s
  -- "a sheet without `?` comes back byte for byte"
  pub no_holes :
      (h : Heading) → length s ≤ most_text → Read h ≡ sheet_of s program_rooms → ((i : ℕ) → i < squares (shape_of s) → is_hole s i ≡ false) →
      repair_text s ≡ s
  -- the beds that the rounds start from are the sheet's own, `no_bed` at each `?`, and the law of rounds holds of them
  pub known_bed : (i : ℕ) → i < squares (shape_of s) → is_hole s i ≡ false → get_or (seen_beds s) i 0 ≡ get_or (beds_read s) i 0
  pub hole_unknown : (i : ℕ) → i < squares (shape_of s) → is_hole s i ≡ true → get_or (seen_beds s) i 0 ≡ no_bed
  pub beds-seen : (h : Heading) → Read h ≡ sheet_of (plugged s) program_rooms → BedsSeen (shape_of s) (marks_read s) (seen_beds s)
  -- every square's line is looked at where the sheet is not refused
  pub all_looked : (h : Heading) → Read h ≡ sheet_of (plugged s) program_rooms → looked_at s ≡ squares (shape_of s)
  -- where every `?` is reached, the sheet that is written is that of all that the reader found, with the beds given
  pub says_beds :
      (h : Heading) → Read h ≡ sheet_of (plugged s) program_rooms →
      ((i : ℕ) → i < squares (shape_of s) → is_hole s i ≡ true → get_or (beds_after s) i 0 ≡ no_bed → ⊥) →
      sheet_after s ≡ sheet_written h (other_beds (said (plugged s)) (beds_after s))
  -- "the ordinary reader .. itself still gives 12 for `?`"
  pub reader_twelve :
      (lent : Rooms) → rooms_fine (shape_of s) (line_one s).side lent ≡ true → (i : ℕ) → i < squares (shape_of s) → is_hole s i ≡ true →
      (line : ℕ) × (Refused 12 line ≡ sheet_of s lent)
