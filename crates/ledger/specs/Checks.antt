-- Document 01, "Numbers given back on refusal": the checks that several calls share, each by its refusal's number.
-- Assumes nothing.
use Rattle.std.specs.Prelude.{◌≡◌, Bool, ◌||◌, List, [], ◌∷◌, ℕ, eqb, leb, length, get_or}
use Rattle.reckon.specs.Tests.{every, all_below}
use Rattle.reckon.specs.Ranges.{most_length, water_fine}
use Rattle.grid.specs.declared.squares.Shape.{Shape}
use Rattle.grid.specs.Squares.{squares, ShapeInRange}
use Rattle.ledger.specs.Runs.{Plan}
use Rattle.ledger.specs.Flows.{shut}
use Rattle.ledger.specs.Record.{held_in, lasted_in}

-- 1: "a slice not one number a square"
unfoldable pub one_each : Plan → List ℕ → Bool
one_each p l = eqb (length l) (squares p.shape)

-- 3: "depth or P of a square not closed out of range"
unfoldable pub waters_fine : Plan → List ℕ → List ℕ → Bool
waters_fine p depths lasts = all_below (squares p.shape) (λ i. shut p i || water_fine (get_or depths i 0) (get_or lasts i 0))

-- 11: "length or lasted not 1 to 60,000"
unfoldable pub times_fine : List ℕ → Bool
times_fine rec = every (leb 1 (held_in rec) ∷ leb (held_in rec) most_length ∷ leb 1 (lasted_in rec) ∷ leb (lasted_in rec) most_length ∷ [])

-- ---- what is asked, and what the public functions give

abbrev pub OneEach : Shape → ℕ → Bool → Type 0
OneEach s numbers r = r ≡ eqb numbers (squares s)

-- a plan and the water on it, one number a square
pub record WaterLent (p : Plan) (depths lasts : List ℕ) : Type 0 where
  pub fine : ShapeInRange p.shape
  pub marks_long : length p.marks ≡ squares p.shape
  pub depths_long : length depths ≡ squares p.shape
  pub lasts_long : length lasts ≡ squares p.shape

abbrev pub WatersJudged : Plan → List ℕ → List ℕ → Bool → Type 0
WatersJudged p depths lasts r = r ≡ waters_fine p depths lasts

abbrev pub TimesJudged : List ℕ → Bool → Type 0
TimesJudged rec r = r ≡ times_fine rec
