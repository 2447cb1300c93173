-- Document 01, "The sheet and its program": what is printed of a refusal, and of a world after so many steps.
-- Assumes nothing.
use Rattle.std.specs.Prelude.{List, [], ◌∷◌, ◌++◌, ℕ, ◌/◌, ◌%◌, get_or}
use Rattle.reckon.specs.Tests.{pick}
use Rattle.reckon.specs.Lists.{joined}
use Rattle.grid.specs.Squares.{squares}
use Rattle.ledger.specs.Runs.{Plan}
use Rattle.ledger.specs.Flows.{shut}
use Rattle.ledger.specs.declared.runs.Run.{Run}
use Rattle.text.specs.Writing.{line_text, Wrote}
use Rattle.sheet.specs.Lines.{cell_word}

-- the words of what is printed, but for `cell`
abbrev pub out_word : List ℕ
out_word = 111 ∷ 117 ∷ 116 ∷ []

abbrev pub soak_word : List ℕ
soak_word = 115 ∷ 111 ∷ 97 ∷ 107 ∷ []

abbrev pub steps_word : List ℕ
steps_word = 115 ∷ 116 ∷ 101 ∷ 112 ∷ 115 ∷ []

abbrev pub clock_word : List ℕ
clock_word = 99 ∷ 108 ∷ 111 ∷ 99 ∷ 107 ∷ []

abbrev pub refused_word : List ℕ
refused_word = 114 ∷ 101 ∷ 102 ∷ 117 ∷ 115 ∷ 101 ∷ 100 ∷ []

-- "A refusal prints only `refused`, number, line (0 unless 12)"
unfoldable pub refused_text : ℕ → ℕ → List ℕ
refused_text number line = line_text refused_word (number ∷ line ∷ [])

-- the bytes that always suffice for it
abbrev pub most_refused : ℕ
most_refused = 50

-- "each square not closed with its depth"
unfoldable pub cell_text : Plan → List ℕ → ℕ → List ℕ
cell_text p depths i =
    pick (shut p i) [] (line_text cell_word (i / p.shape.columns ∷ i % p.shape.columns ∷ get_or depths i 0 ∷ []))

unfoldable pub cells_text : Plan → List ℕ → List ℕ
cells_text p depths = joined (squares p.shape) (cell_text p depths)

-- "then outflow, steps made, clock", and "`soak` and the total on a line after `out`" (document 02, #106)
unfoldable pub totals_text : Run → ℕ → List ℕ
totals_text u steps =
    line_text out_word (u.outflow ∷ [])
    ++ (line_text soak_word (u.soaked ∷ []) ++ (line_text steps_word (steps ∷ []) ++ line_text clock_word (u.clock ∷ [])))

unfoldable pub made_text : Plan → List ℕ → Run → ℕ → List ℕ
made_text p depths u steps = cells_text p depths ++ totals_text u steps

-- ---- what the public functions give

abbrev pub PutRefused : ℕ → ℕ → ℕ → List ℕ → List ℕ → ℕ → Type 0
PutRefused number line at old new r = Wrote (refused_text number line) at old new r

abbrev pub PutWorld : Plan → List ℕ → Run → ℕ → ℕ → List ℕ → List ℕ → ℕ → Type 0
PutWorld p depths u steps at old new r = Wrote (made_text p depths u steps) at old new r

abbrev pub PutTotals : Run → ℕ → ℕ → List ℕ → List ℕ → ℕ → Type 0
PutTotals u steps at old new r = Wrote (totals_text u steps) at old new r
