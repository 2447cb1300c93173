-- Document 02, #114: what is kept from sheet to sheet, one sheet more, and what is printed of it at the end.
-- Assumes nothing.
use Rattle.std.specs.Prelude.{◌≡◌, Bool, true, false, List, [], ◌∷◌, ◌++◌, ℕ, ◌+◌, ◌-◌, ◌/◌, ◌%◌, eqb, leb, ltb, length, get_or, take}
use Rattle.reckon.specs.Tests.{pick, every}
use Rattle.reckon.specs.Lists.{filled, joined, placed}
use Rattle.grid.specs.Squares.{squares, shape_fine}
use Rattle.ledger.specs.Runs.{Plan, plan}
use Rattle.ledger.specs.Flows.{shut}
use Rattle.answer.specs.Printed.{refused_text}
use Rattle.programs.specs.Program.{Prints, program_squares}
use Rattle.lists.specs.Names.{most_sheets}
use Rattle.lists.specs.Sheets.{File, file_number, file_plan, file_peaks}
use Rattle.lists.specs.Drowned.{numbers_text, refused_lines, refused_many}
use Rattle.lists.specs.declared.tally.Tally.{Tally}

-- the rooms: the first accepted one's marks; of each square the count, the deepest value and the place; and the numbers of all names so far
pub record Rooms : Type 0 where
  pub marks : List ℕ
  pub counts : List ℕ
  pub deepest : List ℕ
  pub places : List ℕ
  pub numbers : List ℕ

abbrev pub rooms : List ℕ → List ℕ → List ℕ → List ℕ → List ℕ → Rooms
rooms m c d p n = record { marks = m; counts = c; deepest = d; places = p; numbers = n }

-- before the first name
abbrev pub beginning : ℕ → Tally
beginning wet = record { wet = wet; taken = 0; begun = false; shape = record { rows = 0; columns = 0 }; number = 0 }

-- ---- one accepted sheet more, into the squares that are not closed: what was in the rooms before the first one does not matter

-- no more than the sheets that a list can have
abbrev pub count_with : ℕ → ℕ → ℕ → ℕ
count_with wet peak count = pick (every (leb wet peak ∷ ltb count most_sheets ∷ [])) (count + 1) count

-- it is the first, or deeper than any before it
abbrev pub gives : Bool → ℕ → ℕ → Bool
gives begun deepest peak = pick begun (ltb deepest peak) true

module _ (p : Plan) (begun : Bool) (wet place : ℕ) (peaks : List ℕ) where
  unfoldable pub counts_with : List ℕ → List ℕ
  counts_with counts = filled (squares p.shape) (shut p) (λ i. count_with wet (get_or peaks i 0) (pick begun (get_or counts i 0) 0)) counts

  abbrev pub gives_at : List ℕ → ℕ → Bool
  gives_at deepest i = gives begun (get_or deepest i 0) (get_or peaks i 0)

  unfoldable pub deepest_with : List ℕ → List ℕ
  deepest_with deepest = filled (squares p.shape) (shut p) (λ i. pick (gives_at deepest i) (get_or peaks i 0) (get_or deepest i 0)) deepest

  unfoldable pub places_with : List ℕ → List ℕ → List ℕ
  places_with deepest places = filled (squares p.shape) (shut p) (λ i. pick (gives_at deepest i) place (get_or places i 0)) places

-- ---- one name more

module _ (t : Tally) (f : File) (r : Rooms) where
  -- its number; where 200 have been taken, 16 and nothing else
  unfoldable pub number_with : ℕ
  number_with = pick (ltb t.taken most_sheets) (file_number t.begun (plan t.shape r.marks) f) 16

  -- the first accepted one's plan, in a room for it
  abbrev pub plan_now : Plan
  plan_now =
      pick t.begun (plan t.shape r.marks) (plan (file_plan f).shape (placed r.marks 0 (file_plan f).marks))

  unfoldable pub tally_after : Tally
  tally_after =
      record {
        wet = t.wet;
        taken = pick (ltb t.taken most_sheets) (t.taken + 1) t.taken;
        begun = pick (eqb number_with 0) true t.begun;
        shape = pick (eqb number_with 0) plan_now.shape t.shape;
        number = number_with;
      }

  abbrev pub merged : Rooms
  merged =
      rooms plan_now.marks (counts_with plan_now t.begun t.wet (t.taken + 1) (file_peaks f) r.counts)
      (deepest_with plan_now t.begun t.wet (t.taken + 1) (file_peaks f) r.deepest)
      (places_with plan_now t.begun t.wet (t.taken + 1) (file_peaks f) r.deepest r.places) (placed r.numbers t.taken (0 ∷ []))

  -- "A refused sheet adds nothing to any square"
  abbrev pub noted : Rooms
  noted = rooms r.marks r.counts r.deepest r.places (placed r.numbers t.taken (number_with ∷ []))

  unfoldable pub rooms_after : Rooms
  rooms_after = pick (ltb t.taken most_sheets) (pick (eqb number_with 0) merged noted) r

-- ---- what is printed

-- a square's line by what the rooms hold, none where it is closed; and those of all squares
module _ (p : Plan) (counts deepest places : List ℕ) where
  unfoldable pub square_text : ℕ → List ℕ
  square_text i =
      pick (shut p i) []
      (numbers_text (i / p.shape.columns ∷ i % p.shape.columns ∷ get_or counts i 0 ∷ get_or deepest i 0 ∷ get_or places i 0 ∷ []))

  unfoldable pub squares_text : List ℕ
  squares_text = joined (squares p.shape) square_text

-- by the numbers of all names: the counts of sheets run and refused, and the refused ones
unfoldable pub sheets_text : List ℕ → List ℕ
sheets_text numbers = numbers_text ((length numbers - refused_many numbers) ∷ refused_many numbers ∷ []) ++ refused_lines 1 numbers

-- whether the rooms can hold what a tally tells
unfoldable pub tally_fine : Tally → Bool
tally_fine t =
    every (leb t.taken most_sheets ∷ pick t.begun (every (shape_fine t.shape ∷ leb (squares t.shape) program_squares ∷ [])) true ∷ [])

-- no square where none was accepted; 1 of a tally that no list gives
unfoldable pub tally_text : Tally → Rooms → List ℕ
tally_text t r =
    pick (tally_fine t)
    (pick t.begun (squares_text (plan t.shape r.marks) r.counts r.deepest r.places) []
    ++ sheets_text (take t.taken r.numbers))
    (refused_text 1 0)

-- ---- what the public functions give

abbrev pub Begins : ℕ → Tally → Type 0
Begins wet t = t ≡ beginning wet

pub record TakesSheet (t : Tally) (f : File) (r : Rooms) (a : Tally) (after : Rooms) : Type 0 where
  pub tally_is : a ≡ tally_after t f r
  pub rooms_are : after ≡ rooms_after t f r

abbrev pub PutsDrowned : Tally → Rooms → List ℕ → List ℕ → ℕ → Type 0
PutsDrowned t r old new long = Prints (tally_text t r) old new long
