-- Document 01, "The step", with document 02's #105 and #113: what leaves one square through its four sides, from its depth d, its last
-- leaving P, its roughness k, how long the step lasts (ms) and its four drops V for north, east, south and west. Divisions round down.
-- Assumes nothing.
use Rattle.std.specs.Prelude.{◌≡◌, ◌||◌, List, [], ◌∷◌, ℕ, ◌+◌, ◌*◌, ◌/◌, ◌^◌, min, max, eqb, leb, get_or}
use Rattle.reckon.specs.Tests.{pick}
use Rattle.reckon.specs.Roots.{root_of}
use Rattle.rule.specs.declared.rules.Rules.{Rules}

-- the lesser of two drops that are positive, 0 where neither is
unfoldable pub lesser_positive : ℕ → ℕ → ℕ
lesser_positive a b = pick (eqb a 0) b (pick (eqb b 0) a (min a b))

-- "let Vmin be the least positive drop"
unfoldable pub least_drop : List ℕ → ℕ
least_drop v = lesser_positive (lesser_positive (get_or v 0 0) (get_or v 1 0)) (lesser_positive (get_or v 2 0) (get_or v 3 0))

-- "VM the greatest"
unfoldable pub greatest_drop : List ℕ → ℕ
greatest_drop v = max (max (get_or v 0 0) (get_or v 1 0)) (max (get_or v 2 0) (get_or v 3 0))

-- "T the sum of the four plus Vmin"
unfoldable pub drop_sum : List ℕ → ℕ
drop_sum v = get_or v 0 0 + get_or v 1 0 + get_or v 2 0 + get_or v 3 0 + least_drop v

-- "h: the largest whole number with h³ ≤ d²"
unfoldable pub height_of : ℕ → ℕ
height_of d = root_of 3 (d * d)

-- "s: the largest with s² ≤ 100·VM / D (rounded down)"
unfoldable pub slope_of : Rules → ℕ → ℕ
slope_of r drop = root_of 2 (100 * drop / r.square_side)

-- document 02, #105: "the speed promise speak of µm/s: the largest c with c² ≤ 9,810,000·d"
unfoldable pub critical_speed : ℕ → ℕ
critical_speed d = root_of 2 (9_810_000 * d)

-- #105: ".. and 100·h·s / k", Manning's speed in µm/s
unfoldable pub manning_speed : Rules → ℕ → ℕ → ℕ → ℕ
manning_speed r d k drop = 100 * height_of d * slope_of r drop / k

-- "v is the smaller"
unfoldable pub speed_of : Rules → ℕ → ℕ → ℕ → ℕ
speed_of r d k drop = min (critical_speed d) (manning_speed r d k drop)

-- "Most through the steepest side", by #105: "m = v·Δt·d / (D·10^9)"
unfoldable pub most_through : Rules → ℕ → ℕ → ℕ → ℕ → ℕ
most_through r d k ms drop = speed_of r d k drop * ms * d / (r.square_side * 10 ^ 9)

-- "Total: the smallest of d, m·T / VM, and Vmin + P"
unfoldable pub total_of : Rules → ℕ → ℕ → ℕ → ℕ → List ℕ → ℕ
total_of r d p k ms v = min d (min (most_through r d k ms (greatest_drop v) * drop_sum v / greatest_drop v) (least_drop v + p))

-- "Through each side: total·V / T"
unfoldable pub through_sides : ℕ → List ℕ → List ℕ
through_sides total v =
    (total * get_or v 0 0 / drop_sum v)
    ∷ (total * get_or v 1 0 / drop_sum v)
    ∷ (total * get_or v 2 0 / drop_sum v)
    ∷ (total * get_or v 3 0 / drop_sum v)
    ∷ []

-- "If d = 0 or no drop is positive, nothing leaves. Otherwise .."
unfoldable pub nothing_unless : ℕ → List ℕ → List ℕ → List ℕ
nothing_unless d v through = pick (eqb d 0 || eqb (greatest_drop v) 0) (0 ∷ 0 ∷ 0 ∷ 0 ∷ []) through

-- ---- the editions

-- #113: "a second rule edition", "a third edition"; any other is document 01's, and row 5 refuses all but 1 to 3
abbrev pub directed_edition : ℕ
directed_edition = 2

abbrev pub unlimited_edition : ℕ
unlimited_edition = 3

-- edition 1: document 01's rule
unfoldable pub weighted_sides : Rules → ℕ → ℕ → ℕ → ℕ → List ℕ → List ℕ
weighted_sides r d p k ms v = nothing_unless d v (through_sides (total_of r d p k ms v) v)

-- edition 2, document 02, #113: "for each positive drop, s from that drop, speed as now, amount the smaller of d and v·Δt·d over the
-- same divisor"
unfoldable pub directed_amount : Rules → ℕ → ℕ → ℕ → ℕ → ℕ
directed_amount r d k ms drop = pick (eqb drop 0) 0 (min d (most_through r d k ms drop))

unfoldable pub directed_amounts : Rules → ℕ → ℕ → ℕ → List ℕ → List ℕ
directed_amounts r d k ms v =
    directed_amount r d k ms (get_or v 0 0)
    ∷ directed_amount r d k ms (get_or v 1 0)
    ∷ directed_amount r d k ms (get_or v 2 0)
    ∷ directed_amount r d k ms (get_or v 3 0)
    ∷ []

-- the sum of four
abbrev pub four_of : List ℕ → ℕ
four_of v = get_or v 0 0 + get_or v 1 0 + get_or v 2 0 + get_or v 3 0

-- #113: "If the four sum to more than d, each becomes amount·d / sum, rounded down"
unfoldable pub scaled_to : ℕ → List ℕ → List ℕ
scaled_to d a =
    pick (leb (four_of a) d) a
    (get_or a 0 0 * d / four_of a ∷ get_or a 1 0 * d / four_of a ∷ get_or a 2 0 * d / four_of a ∷ get_or a 3 0 * d / four_of a ∷ [])

unfoldable pub directed_sides : Rules → ℕ → ℕ → ℕ → List ℕ → List ℕ
directed_sides r d k ms v = scaled_to d (directed_amounts r d k ms v)

-- edition 3, #113: "document 01's rule without the Vmin + P limit"
unfoldable pub unlimited_total : Rules → ℕ → ℕ → ℕ → List ℕ → ℕ
unlimited_total r d k ms v = min d (most_through r d k ms (greatest_drop v) * drop_sum v / greatest_drop v)

unfoldable pub unlimited_sides : Rules → ℕ → ℕ → ℕ → List ℕ → List ℕ
unlimited_sides r d k ms v = nothing_unless d v (through_sides (unlimited_total r d k ms v) v)

-- #113: "chosen per run"
unfoldable pub weighed : Rules → ℕ → ℕ → ℕ → ℕ → List ℕ → List ℕ
weighed r d p k ms v =
    pick (eqb r.edition directed_edition) (directed_sides r d k ms v)
    (pick (eqb r.edition unlimited_edition) (unlimited_sides r d k ms v) (weighted_sides r d p k ms v))

-- ---- what the public function gives

abbrev pub Weighs : Rules → ℕ → ℕ → ℕ → ℕ → List ℕ → List ℕ → Type 0
Weighs rules d p k ms v r = r ≡ weighed rules d p k ms v
