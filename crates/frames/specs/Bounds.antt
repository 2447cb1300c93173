-- What the desk prints of the most and the least steps to an end (document 02, #112).
-- Assumes nothing.
use Rattle.std.specs.Prelude.{List, [], ◌∷◌, ℕ}
use Rattle.checks.specs.declared.bounds.Bounds.{Bounds}
use Rattle.checks.specs.declared.bounds.Bounds.TheVariants.{Bounded, NotBounded, Refused}
use Rattle.text.specs.Writing.{line_text, Wrote}

abbrev pub most_word : List ℕ
most_word = 109 ∷ 111 ∷ 115 ∷ 116 ∷ []

abbrev pub unbounded_word : List ℕ
unbounded_word = 117 ∷ 110 ∷ 98 ∷ 111 ∷ 117 ∷ 110 ∷ 100 ∷ 101 ∷ 100 ∷ []

-- "`most` most least, or `unbounded`"; nothing where the caller has refused
unfoldable pub bounds_text : Bounds → List ℕ
bounds_text (Bounded b) = line_text most_word (b.most ∷ b.least ∷ [])
bounds_text NotBounded = line_text unbounded_word []
bounds_text (Refused n) = []

-- the bytes that always suffice for it
abbrev pub most_bounds : ℕ
most_bounds = 47

-- ---- what the public function gives

abbrev pub PutBounds : Bounds → ℕ → List ℕ → List ℕ → ℕ → Type 0
PutBounds b at old new r = Wrote (bounds_text b) at old new r
