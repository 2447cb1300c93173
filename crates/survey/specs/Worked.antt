-- Document 02, #104, worked by hand: the files of a set with every number its own, document 01's sheet there and back, a set from elsewhere,
-- and refusals; and what returns, in words that a caller can check.
-- Assumes nothing.
use Rattle.std.specs.Prelude.{◌≡◌, List, [], ◌∷◌, ◌++◌, ℕ, length, take}
use Prim.Native.String.{String}
use Rattle.grid.specs.Squares.{most_squares}
use Rattle.text.specs.Bytes.{bytes_of}
use Rattle.sheet.specs.Sheet.{Rooms, rooms, said, heading_of, sheet_of}
use Rattle.sheet.specs.declared.reading.Heading.{Heading}
use Rattle.sheet.specs.declared.reading.Sheet.TheVariants.{Read}
use Rattle.programs.specs.Reading.{empty_rooms}
use Rattle.survey.specs.Sets.{Set, five_files, set_of, set_says, to_survey, from_survey}
use Rattle.survey.specs.Sets.Outcome.{moved, refused}
use Rattle.survey.specs.Moving.{MovesPart, MovesSet}
use Rattle.survey.specs.declared.moving.Part.TheVariants.{Note, Bed, Depth, Roughness, Rate}
use Rattle.survey.specs.declared.moving.Moved.{Moved}
use Rattle.survey.specs.declared.moving.Moved.TheVariants.{Wrote}

-- ---- three rows of one square, the middle one closed

abbrev heading : Heading
heading =
    record {
      shape = record { rows = 3; columns = 1 };
      rules = record { square_side = 5; tolerance = 10; shortest = 300; longest = 700; update = 1_000; edge = 8; edition = 2 };
      end = 2_000;
      rain_rows = 1;
      inflow_rows = 1;
    }

abbrev held : Rooms
held =
    rooms (1 ∷ 0 ∷ 2 ∷ []) (60 ∷ 9 ∷ 61 ∷ []) (100 ∷ 9 ∷ 101 ∷ []) (36 ∷ 9 ∷ 37 ∷ []) (50 ∷ 9 ∷ 1_000_051 ∷ []) (51 ∷ 150 ∷ 90 ∷ [])
    (2 ∷ 0 ∷ 7 ∷ 101 ∷ 8 ∷ [])

pub record PartsWorked : Type 0 where
  pub note_is : (set_of heading held).note
      ≡ bytes_of "grid\t3\t1\t5\nrun\t10\t300\t700\t1000\t2000\t8\t2\ncell\t0\t0\to\ncell\t1\t0\tx\ncell\t2\t0\te\nrain\t51\t150\t90\ninflow\t2\t0\t7\t101\t8\n"
  pub bed_is : (set_of heading held).bed
      ≡ bytes_of "ncols 1\nnrows 3\nxllcorner 0\nyllcorner 0\ncellsize 5\nNODATA_value -9999\n0.000060\n-9999\n0.000061\n"
  pub depth_is : (set_of heading held).depth
      ≡ bytes_of "ncols 1\nnrows 3\nxllcorner 0\nyllcorner 0\ncellsize 5\nNODATA_value -9999\n0.000050\n-9999\n1.000051\n"
  pub roughness_is : (set_of heading held).roughness
      ≡ bytes_of "ncols 1\nnrows 3\nxllcorner 0\nyllcorner 0\ncellsize 5\nNODATA_value -9999\n100\n-9999\n101\n"
  pub rate_is : (set_of heading held).rate
      ≡ bytes_of "ncols 1\nnrows 3\nxllcorner 0\nyllcorner 0\ncellsize 5\nNODATA_value -9999\n36\n-9999\n37\n"

-- ---- document 01's sheet, with the fields that came later

abbrev pub document_sheet : List ℕ
document_sheet = bytes_of "grid\t1\t2\t1\nrun\t100\t1000\t1000\t1000\t1000\t10000\t1\ncell\t0\t0\to\t0\t100\t1000\t0\ncell\t0\t1\to\t0\t100\t0\t0\n"

-- its set, but for the rows of bed, depth and roughness
abbrev pub document_set : String → String → String → Set
document_set b d k =
    let head = bytes_of "ncols 2\nnrows 1\nxllcorner 0\nyllcorner 0\ncellsize 1\nNODATA_value -9999\n" in
    five_files (bytes_of "grid\t1\t2\t1\nrun\t100\t1000\t1000\t1000\t1000\t10000\t1\ncell\t0\t0\to\ncell\t0\t1\to\n") (head ++ bytes_of b)
    (head ++ bytes_of d) (head ++ bytes_of k) (head ++ bytes_of "0 0\n")

pub record SetsWorked : Type 0 where
  pub document_out : to_survey document_sheet ≡ moved (document_set "0.000000 0.000000\n" "0.001000 0.000000\n" "100 100\n")
  pub document_back : from_survey (document_set "0.000000 0.000000\n" "0.001000 0.000000\n" "100 100\n") ≡ moved document_sheet
  -- several spaces and fewer decimals
  pub from_elsewhere : from_survey (document_set "0    0.0\n" "0.001  0\n" "100 100\n") ≡ moved document_sheet

-- ---- refusals

pub record RefusalsWorked : Type 0 where
  -- "note first, then bed, depth, roughness"; "more than six decimals"
  pub bed_first : from_survey (document_set "0 0.0000000\n" "0\n" "100 100\n") ≡ refused 12 7
  pub two_rows : from_survey (document_set "0 0\n" "0 0\n0 0\n" "100\n") ≡ refused 12 8
  -- text before "closed squares, the note's marks among them"
  pub text_first : from_survey (document_set "0 -9999\n" "0 0\n" "100 1.0\n") ≡ refused 12 7
  pub closed_differ : from_survey (document_set "0 -9999\n" "0 0\n" "100 100\n") ≡ refused 14 0
  -- "then 1 to 5 as for a sheet": a bed, a roughness and a depth out of range
  pub bed_high : from_survey (document_set "0 1000.000001\n" "101 0\n" "100 100\n") ≡ refused 2 0
  pub rough_low : from_survey (document_set "0 0\n" "0 0\n" "0 100\n") ≡ refused 2 0
  pub too_deep : from_survey (document_set "0 0\n" "100.000001 0\n" "100 100\n") ≡ refused 3 0

-- ---- "A sheet that reads well returns byte for byte, and a set we wrote returns likewise."

pub record Returns : Type 0 where
  -- "A sheet that reads well", by the reader's own word and whatever rooms it was lent, is moved, "[and] returns byte for byte"
  pub sheet_moves : (s : List ℕ) (lent : Rooms) (h : Heading) → Read h ≡ sheet_of s lent → to_survey s ≡ moved (set_of h (said s))
  pub sheet_returns : (s : List ℕ) (t : Set) → to_survey s ≡ moved t → from_survey t ≡ moved s
  -- "and a set we wrote returns likewise"
  pub set_returns : (s u : List ℕ) (t : Set) → to_survey s ≡ moved t → from_survey t ≡ moved u → to_survey u ≡ moved t
  -- "A set from elsewhere": the sheet that it becomes reads well, and says what the set says
  pub elsewhere :
      (t : Set) (u : List ℕ) → from_survey t ≡ moved u →
      (sheet_of u (empty_rooms most_squares) ≡ Read (heading_of t.note)) × (said u ≡ set_says t)
  -- of the calls: the five parts that a sheet which reads well is moved to, in whatever rooms, are moved back to it
  pub there_and_back :
      (s : List ℕ) (lent : Rooms) (h : Heading) → Read h ≡ sheet_of s lent → (old : List ℕ) (n b d k r : ℕ) (N B D K R : List ℕ) →
      MovesPart s Note old (Wrote n) N → MovesPart s Bed old (Wrote b) B → MovesPart s Depth old (Wrote d) D →
      MovesPart s Roughness old (Wrote k) K → MovesPart s Rate old (Wrote r) R → (a : Moved) (before after : List ℕ) →
      MovesSet (five_files (take n N) (take b B) (take d D) (take k K) (take r R)) before a after →
      (a ≡ Wrote (length s)) × (take (length s) after ≡ s)
