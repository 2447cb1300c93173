-- What the functions inside `repair_of` ask of one another and give. No public promise names these.
-- Assumes nothing.
use Rattle.std.specs.Prelude.{◌≡◌, false, List, [], ◌∷◌, ◌++◌, ℕ, ◌/◌, ◌%◌, ◌≤◌, ◌<◌, eqb, length, get_or, drop, Option, Some, None}
use Rattle.reckon.specs.Tests.{pick}
use Rattle.reckon.specs.Lists.{joined, filled}
use Rattle.reckon.specs.Ranges.{most_bed}
use Rattle.grid.specs.Squares.{ShapeInRange, squares}
use Rattle.grid.specs.Marks.{closed}
use Rattle.grid.specs.declared.squares.Shape.{Shape}
use Rattle.text.specs.Reading.{tab}
use Rattle.text.specs.Writing.{fields_text, Wrote}
use Rattle.sheet.specs.Lines.{cell_word}
use Rattle.sheet.specs.Sheet.{shape_of}
use Rattle.programs.specs.Program.{most_text, program_squares}
use Rattle.holes.specs.Rounds.{filled_beds, round_filling}
use Rattle.holes.specs.Holes.{hole_at, bed_at, line_with, looked_at, start_of, with_beds}
use Rattle.holes.specs.Repaired.{bed_text, hole_text, repaired_with, most_repaired}

-- ---- the rounds

-- rounds until one fills nothing: the beds after them, and the round of each square that was filled, the old number elsewhere
pub record RoundsMade (shape : Shape) (marks beds after old new : List ℕ) : Type 0 where
  pub beds_are : after ≡ filled_beds shape marks beds
  pub turns_are : new ≡ filled (squares shape) (λ i. eqb (get_or after i 0) (get_or beds i 0)) (round_filling shape marks beds) old

-- ---- holes

-- what a square's line begins with, up to the tab before its mark
abbrev pub place_text : ℕ → ℕ → List ℕ
place_text row column = cell_word ++ (fields_text (row ∷ column ∷ []) ++ (tab ∷ []))

-- the hole of the line at p
unfoldable pub hole_in : List ℕ → ℕ → ℕ → ℕ → Option ℕ
hole_in s p row column = pick (hole_at s p row column) (Some (bed_at s p row column)) None

-- the squares of a text whose lines are looked at, with the text's columns
pub record Looked (s : List ℕ) (columns n : ℕ) : Type 0 where
  pub columns_are : columns ≡ (shape_of s).columns
  pub squares_are : n ≡ looked_at s

-- the text with beds for its holes, by what a room holds; and what of it stands from the first square's line on
abbrev pub beds_put : List ℕ → List ℕ → List ℕ
beds_put s beds = with_beds s (λ i. bed_text (get_or beds i 0))

abbrev pub line_put : List ℕ → List ℕ → ℕ → List ℕ
line_put s beds i = line_with s (start_of s i) (i / (shape_of s).columns) (i % (shape_of s).columns) (bed_text (get_or beds i 0))

abbrev pub cells_put : List ℕ → List ℕ → List ℕ
cells_put s beds = joined (looked_at s) (line_put s beds) ++ drop (start_of s (looked_at s)) s

-- the list, by what rooms hold
abbrev pub listed_line : List ℕ → List ℕ → List ℕ → ℕ → List ℕ
listed_line s beds turns i = hole_text s (start_of s i) (i / (shape_of s).columns) (i % (shape_of s).columns) (get_or beds i 0) (get_or turns i 0)

abbrev pub listed : List ℕ → List ℕ → List ℕ → List ℕ
listed s beds turns = joined (looked_at s) (listed_line s beds turns)

-- what a sheet that is repaired has: a shape, of which every square is looked at, marks and beds that the ordinary reader found
pub record Repairable (s : List ℕ) (shape : Shape) (marks beds : List ℕ) : Type 0 where
  pub short : length s ≤ most_text
  pub shape_is : shape ≡ shape_of s
  pub in_range : ShapeInRange shape
  pub few : squares shape ≤ program_squares
  pub all_looked : squares shape ≡ looked_at s
  pub marks_long : squares shape ≡ length marks
  pub beds_long : squares shape ≡ length beds
  pub beds_low : (i : ℕ) → i < squares shape → closed marks i ≡ false → get_or beds i 0 ≤ most_bed

-- the repaired sheet and the list at the start of a room, where they fit
pub record PutsRepaired (s marks beds old new : List ℕ) (r : ℕ) : Type 0 where
  pub wrote : Wrote (repaired_with s marks beds) 0 old new r
  pub fits : length (repaired_with s marks beds) ≤ most_repaired
