-- Document 02, #114, "Which squares drown most often": a whole list in the document's words, from what came of each name to what is printed.
-- Assumes nothing.
use Rattle.std.specs.Prelude.{Bool, false, ◌||◌, List, [], ◌∷◌, ◌++◌, ℕ, suc, ◌/◌, ◌%◌, max, eqb, leb, length, get_or}
use Rattle.reckon.specs.Tests.{pick}
use Rattle.reckon.specs.Lists.{joined}
use Rattle.grid.specs.Squares.{squares}
use Rattle.ledger.specs.Runs.{Plan, plan}
use Rattle.ledger.specs.Flows.{shut}
use Rattle.text.specs.Writing.{decimal, rest_text}
use Rattle.lists.specs.Sheets.{File, file_number, file_plan, file_peaks}

-- an accepted sheet: its place in the list, from 1, and the deepest of each of its squares
pub record Accepted : Type 0 where
  pub place : ℕ
  pub peaks : List ℕ

abbrev pub accepted : ℕ → List ℕ → Accepted
accepted place peaks = record { place = place; peaks = peaks }

module _ (i : ℕ) where
  abbrev pub peak_in : Accepted → ℕ
  peak_in s = get_or s.peaks i 0

  -- "how many sheets had it at least that deep at any state of the run"
  unfoldable pub drowned : ℕ → List Accepted → ℕ
  drowned wet [] = 0
  drowned wet (s ∷ rest) = pick (leb wet (peak_in s)) (suc (drowned wet rest)) (drowned wet rest)

  -- "the deepest value"
  unfoldable pub deepest_of : List Accepted → ℕ
  deepest_of [] = 0
  deepest_of (s ∷ rest) = max (peak_in s) (deepest_of rest)

  -- "the place in the list (from 1) of the sheet that first gave it"
  unfoldable pub first_with : ℕ → List Accepted → ℕ
  first_with depth [] = 0
  first_with depth (s ∷ rest) = pick (eqb (peak_in s) depth) s.place (first_with depth rest)

  abbrev pub first_gave : List Accepted → ℕ
  first_gave sheets = first_with (deepest_of sheets) sheets

-- ---- from what came of each name

abbrev pub no_plan : Plan
no_plan = plan (record { rows = 0; columns = 0 }) []

-- the plan that later ones are held against: the first accepted one's, as soon as there is one
abbrev pub plan_with : Bool → Plan → File → Plan
plan_with begun q f = pick begun q (pick (eqb (file_number begun q f) 0) (file_plan f) q)

abbrev pub begun_with : Bool → Plan → File → Bool
begun_with begun q f = begun || eqb (file_number begun q f) 0

-- the numbers of all in turn, 0 for an accepted one
unfoldable pub numbers_from : Bool → Plan → List File → List ℕ
numbers_from begun q [] = []
numbers_from begun q (f ∷ rest) = file_number begun q f ∷ numbers_from (begun_with begun q f) (plan_with begun q f) rest

unfoldable pub plan_from : Bool → Plan → List File → Plan
plan_from begun q [] = q
plan_from begun q (f ∷ rest) = plan_from (begun_with begun q f) (plan_with begun q f) rest

-- "A refused sheet adds nothing to any square": the accepted ones with their places, the first name's being `place`
unfoldable pub accepted_from : ℕ → Bool → Plan → List File → List Accepted
accepted_from place begun q [] = []
accepted_from place begun q (f ∷ rest) =
    pick (eqb (file_number begun q f) 0) (accepted place (file_peaks f) ∷ accepted_from (suc place) (begun_with begun q f) (plan_with begun q f) rest)
    (accepted_from (suc place) (begun_with begun q f) (plan_with begun q f) rest)

-- ---- what is printed

-- bare numbers parted by tabs, and the end of the line
unfoldable pub numbers_text : List ℕ → List ℕ
numbers_text [] = rest_text []
numbers_text (v ∷ vs) = decimal v ++ rest_text vs

-- "then each refused one's place and number": the line of a place, none where its sheet was accepted; and those of all from a place on
unfoldable pub refused_line : ℕ → ℕ → List ℕ
refused_line place n = pick (eqb n 0) [] (numbers_text (place ∷ n ∷ []))

unfoldable pub refused_lines : ℕ → List ℕ → List ℕ
refused_lines place [] = []
refused_lines place (n ∷ rest) = refused_line place n ++ refused_lines (suc place) rest

unfoldable pub refused_many : List ℕ → ℕ
refused_many [] = 0
refused_many (n ∷ rest) = pick (eqb n 0) (refused_many rest) (suc (refused_many rest))

module _ (wet : ℕ) (files : List File) where
  abbrev pub numbers_of : List ℕ
  numbers_of = numbers_from false no_plan files

  abbrev pub first_plan : Plan
  first_plan = plan_from false no_plan files

  abbrev pub sheets_run : List Accepted
  sheets_run = accepted_from 1 false no_plan files

  -- "For each square not closed .. row, column, how many sheets .., the deepest value, and the place in the list"
  unfoldable pub drowned_line : ℕ → List ℕ
  drowned_line i =
      pick (shut first_plan i) []
      (numbers_text
      (i / first_plan.shape.columns ∷ i % first_plan.shape.columns ∷ drowned i wet sheets_run ∷ deepest_of i sheets_run ∷ first_gave i sheets_run ∷ []))

  -- "in square order"; "At the end come the counts of sheets run and refused, then each refused one's place and number"
  unfoldable pub drowned_text : List ℕ
  drowned_text =
      joined (squares first_plan.shape) drowned_line
      ++ (numbers_text (length sheets_run ∷ refused_many numbers_of ∷ []) ++ refused_lines 1 numbers_of)
