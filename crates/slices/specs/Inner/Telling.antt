-- What is told of a run under way.
-- Assumes nothing.
use Rattle.std.specs.Prelude.{List, [], ◌∷◌, ℕ}
use Rattle.text.specs.Writing.{line_text}

abbrev pub reached_word : List ℕ
reached_word = 114 ∷ 101 ∷ 97 ∷ 99 ∷ 104 ∷ 101 ∷ 100 ∷ []

-- the steps made and the clock
unfoldable pub told_text : ℕ → ℕ → List ℕ
told_text steps clock = line_text reached_word (steps ∷ clock ∷ [])

-- the bytes that always suffice for it
abbrev pub most_told : ℕ
most_told = 50
