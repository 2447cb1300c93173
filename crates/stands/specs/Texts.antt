-- What the desk's `stand` prints: a state as lines of at most eight numbers, so that the project's own reader reads them.
-- Assumes nothing.
use Rattle.std.specs.Prelude.{false, List, [], ◌∷◌, ◌++◌, ℕ, ◌+◌, ◌/◌, ◌%◌, ◌≤◌, length, get_or}
use Rattle.reckon.specs.Tests.{pick}
use Rattle.reckon.specs.Lists.{joined}
use Rattle.grid.specs.Squares.{squares}
use Rattle.ledger.specs.Runs.{Plan}
use Rattle.ledger.specs.Flows.{shut}
use Rattle.text.specs.Writing.{line_text, Wrote}
use Rattle.answer.specs.Printed.{out_word, soak_word}
use Rattle.hatches.specs.Lines.{hatch_word}
use Rattle.hatches.specs.Log.{most_hatches}
use Rattle.hatches.specs.declared.log.Hatches.{Hatches}
use Rattle.stands.specs.declared.saved.Saved.{Saved}

-- the words that lines begin with, but for `out`, `soak` and `hatch`
abbrev pub stand_word : List ℕ
stand_word = 115 ∷ 116 ∷ 97 ∷ 110 ∷ 100 ∷ []

abbrev pub start_word : List ℕ
start_word = 115 ∷ 116 ∷ 97 ∷ 114 ∷ 116 ∷ []

abbrev pub given_word : List ℕ
given_word = 103 ∷ 105 ∷ 118 ∷ 101 ∷ 110 ∷ []

abbrev pub at_word : List ℕ
at_word = 97 ∷ 116 ∷ []

-- "a u64 as high and low 32 bits"
abbrev pub half : ℕ
half = 4_294_967_296

unfoldable pub total_text : List ℕ → ℕ → List ℕ
total_text word n = line_text word (n / half ∷ n % half ∷ [])

-- "`stand` steps clock length opening": "opening 1 while hatches may still be named, else 0"
unfoldable pub first_text : Saved → List ℕ
first_text a =
    line_text stand_word (a.log.steps ∷ a.log.run.clock ∷ a.log.run.length ∷ pick {A = ℕ} a.log.opening 1 0 ∷ [])

-- then "`out`", "`soak`", "`start`" and "`given`", each "high low"
unfoldable pub head_text : Saved → List ℕ
head_text a =
    first_text a
    ++ (total_text out_word a.log.run.outflow
    ++ (total_text soak_word a.log.run.soaked ++ (total_text start_word a.start ++ total_text given_word a.given)))

-- "`hatch` number row column litres", "one for each named hatch, by number"
unfoldable pub hatch_text : Hatches → List ℕ → ℕ → List ℕ
hatch_text hs litres h =
    pick (get_or hs.named h false) (line_text hatch_word ((h + 1) ∷ get_or hs.rows h 0 ∷ get_or hs.columns h 0 ∷ get_or litres h 0 ∷ [])) []

unfoldable pub hatches_text : Hatches → List ℕ → List ℕ
hatches_text hs litres = joined most_hatches (hatch_text hs litres)

-- "`at` square depth last", "one for each square not closed, in order"
unfoldable pub square_text : Plan → List ℕ → List ℕ → ℕ → List ℕ
square_text p depths lasts i = pick (shut p i) [] (line_text at_word (i ∷ get_or depths i 0 ∷ get_or lasts i 0 ∷ []))

unfoldable pub squares_text : Plan → List ℕ → List ℕ → List ℕ
squares_text p depths lasts = joined (squares p.shape) (square_text p depths lasts)

-- the whole state
unfoldable pub stand_text : Plan → List ℕ → List ℕ → Saved → List ℕ
stand_text p depths lasts a = head_text a ++ (hatches_text a.log.hatches a.log.litres ++ squares_text p depths lasts)

-- the bytes that always suffice for it: 30 for each of 4,096 squares, 652 before them
abbrev pub most_stand : ℕ
most_stand = 123_532

-- ---- what the public function gives

-- its text at a place, of at most so many bytes
pub record PutStand (p : Plan) (depths lasts : List ℕ) (a : Saved) (at : ℕ) (old new : List ℕ) (r : ℕ) : Type 0 where
  pub wrote : Wrote (stand_text p depths lasts a) at old new r
  pub short : length (stand_text p depths lasts a) ≤ most_stand
