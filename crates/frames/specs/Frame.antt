-- A frame as text: what stands, to be read by eye and by the server. Every field is a number of the library but a closed square's, which is `x`.
-- Assumes nothing.
use Rattle.std.specs.Prelude.{List, [], ◌∷◌, ◌++◌, ℕ, ◌+◌, ◌*◌, get_or}
use Rattle.reckon.specs.Tests.{pick}
use Rattle.reckon.specs.Lists.{tabulate, joined}
use Rattle.grid.specs.Marks.{closed}
use Rattle.grid.specs.declared.squares.Shape.{Shape}
use Rattle.text.specs.Reading.{tab, newline}
use Rattle.text.specs.Writing.{field_text, line_text, Wrote}
use Rattle.frames.specs.declared.frame.Figures.{Figures}

abbrev pub frame_word : List ℕ
frame_word = 102 ∷ 114 ∷ 97 ∷ 109 ∷ 101 ∷ []

abbrev pub rates_word : List ℕ
rates_word = 114 ∷ 97 ∷ 116 ∷ 101 ∷ 115 ∷ []

abbrev pub row_word : List ℕ
row_word = 114 ∷ 111 ∷ 119 ∷ []

-- "steps clock length out soak kept room on start given"
abbrev pub figures_of : Figures → List ℕ
figures_of f =
    f.steps
    ∷ f.clock
    ∷ f.length
    ∷ f.outflow
    ∷ f.soaked
    ∷ f.kept
    ∷ f.room
    ∷ f.on_ground
    ∷ f.start
    ∷ f.given
    ∷ []

-- "frame", and these ten
unfoldable pub figures_text : Figures → List ℕ
figures_text f = line_text frame_word (figures_of f)

-- "rates  nine numbers": what hatch 1 to 9 runs at
unfoldable pub rates_text : List ℕ → List ℕ
rates_text litres = line_text rates_word (tabulate 9 (λ n. get_or litres n 0))

-- "a depth in µm, or x for a closed square": what a closed square holds is not printed
unfoldable pub square_text : List ℕ → List ℕ → ℕ → List ℕ
square_text marks depths i = pick (closed marks i) (tab ∷ 120 ∷ []) (field_text (get_or depths i 0))

-- "row", "one a column": so many squares from a first one on
unfoldable pub row_text : List ℕ → List ℕ → ℕ → ℕ → List ℕ
row_text marks depths columns first = row_word ++ (joined columns (λ c. square_text marks depths (first + c)) ++ (newline ∷ []))

-- "so many lines as the grid has rows"
unfoldable pub rows_text : Shape → List ℕ → List ℕ → List ℕ
rows_text s marks depths = joined s.rows (λ r. row_text marks depths s.columns (r * s.columns))

-- the three one after the other
unfoldable pub frame_text : Figures → List ℕ → Shape → List ℕ → List ℕ → List ℕ
frame_text f litres s marks depths = figures_text f ++ (rates_text litres ++ rows_text s marks depths)

-- ---- what the public function gives

abbrev pub PutFrame : Figures → List ℕ → Shape → List ℕ → List ℕ → ℕ → List ℕ → List ℕ → ℕ → Type 0
PutFrame f litres s marks depths at old new r = Wrote (frame_text f litres s marks depths) at old new r
