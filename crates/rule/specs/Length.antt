-- Document 01, "Step length".
-- Assumes nothing.
use Rattle.std.specs.Prelude.{◌≡◌, Bool, List, [], ◌∷◌, ◌++◌, ℕ, ◌-◌, ◌*◌, ◌/◌, ◌%◌, min, max, eqb, ltb, get_or}
use Rattle.reckon.specs.Tests.{pick}
use Rattle.rule.specs.Weighing.{height_of, slope_of}
use Rattle.rule.specs.declared.rules.Rules.{Rules}

-- "take s from that side's V; the candidate is 50,000·D²·k·s / (d·h)"
unfoldable pub candidate : Rules → ℕ → ℕ → ℕ → ℕ
candidate r d k drop = 50_000 * r.square_side * r.square_side * k * slope_of r drop / (d * height_of d)

-- "each side with V > q·100·D"
unfoldable pub counts : Rules → ℕ → Bool
counts r drop = ltb (r.tolerance * 100 * r.square_side) drop

unfoldable pub side_candidates : Rules → ℕ → ℕ → ℕ → List ℕ
side_candidates r d k drop = pick (counts r drop) (candidate r d k drop ∷ []) []

-- "For each square .. with d > 0 and each side": the candidates of one square
unfoldable pub candidates_of : Rules → ℕ → ℕ → List ℕ → List ℕ
candidates_of r d k v =
    pick (eqb d 0) []
    ((side_candidates r d k (get_or v 0 0) ++ side_candidates r d k (get_or v 1 0))
    ++ (side_candidates r d k (get_or v 2 0) ++ side_candidates r d k (get_or v 3 0)))

-- the least of a number and a list
unfoldable pub least_from : ℕ → List ℕ → ℕ
least_from best [] = best
least_from best (c ∷ cs) = least_from (min best c) cs

-- "held between shortest and longest"
unfoldable pub held_between : Rules → ℕ → ℕ
held_between r c = max r.shortest (min r.longest c)

-- "The least, held between shortest and longest; longest if there is none"
unfoldable pub fresh_length : Rules → List ℕ → ℕ
fresh_length r [] = r.longest
fresh_length r (c ∷ cs) = held_between r (least_from c cs)

-- "when the clock is a multiple of U it is worked afresh"
unfoldable pub is_update : Rules → ℕ → Bool
is_update r clock = eqb (clock % r.update) 0

-- ".. the run holds it until the next such clock"
unfoldable pub length_at : Rules → ℕ → ℕ → List ℕ → ℕ
length_at r clock held candidates = pick (is_update r clock) (fresh_length r candidates) held

-- "The step lasts the smaller of that length and the time to the next multiple of U"
unfoldable pub duration_for : Rules → ℕ → ℕ → ℕ
duration_for r clock length = min length (r.update - clock % r.update)

-- ---- what the public functions give

abbrev pub Shorter : Rules → ℕ → ℕ → ℕ → List ℕ → ℕ → Type 0
Shorter rules best d k v r = r ≡ least_from best (candidates_of rules d k v)

abbrev pub HeldLength : Rules → ℕ → ℕ → Type 0
HeldLength rules c r = r ≡ held_between rules c

abbrev pub IsUpdate : Rules → ℕ → Bool → Type 0
IsUpdate rules clock r = r ≡ is_update rules clock

abbrev pub DurationFor : Rules → ℕ → ℕ → ℕ → Type 0
DurationFor rules clock length r = r ≡ duration_for rules clock length
