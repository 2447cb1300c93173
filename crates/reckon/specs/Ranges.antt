-- Document 01, "Units and ranges": the ends of the ranges by the names of its table, and the tests that several crates share.
-- Assumes nothing.
use Rattle.std.specs.Prelude.{◌≡◌, Bool, [], ◌∷◌, ℕ, leb}
use Rattle.reckon.specs.Tests.{every}

-- "side D: m, 1 to 100"
abbrev pub most_side : ℕ
most_side = 100

-- "bed: µm, 0 to 1,000,000,000"
abbrev pub most_bed : ℕ
most_bed = 1_000_000_000

-- "depth d, last leaving P: µm over the square, 0 to 100,000,000"
abbrev pub most_depth : ℕ
most_depth = 100_000_000

-- "roughness k (ten-thousandths of Manning's n): 1 to 10,000"
abbrev pub most_roughness : ℕ
most_roughness = 10_000

-- "slope tolerance q: ten-thousandths, 0 to 10,000"
abbrev pub most_tolerance : ℕ
most_tolerance = 10_000

-- document 02, #102: "an edge slope e in ten-thousandths", "e above 10,000 is 5"
abbrev pub most_edge : ℕ
most_edge = 10_000

-- document 02, #113: "the edition, 1 to 3", "another edition is 5"
abbrev pub most_edition : ℕ
most_edition = 3

-- "shortest, longest step: ms, 1 ≤ shortest ≤ longest ≤ 60,000"
abbrev pub most_length : ℕ
most_length = 60_000

-- "update time U: ms, 1 to 3,600,000"
abbrev pub most_update : ℕ
most_update = 3_600_000

-- "clock, table times: ms, 0 to 604,800,000"
abbrev pub last_clock : ℕ
last_clock = 604_800_000

-- "rain rate: µm per hour, 0 to 1,000,000"
abbrev pub most_rain : ℕ
most_rain = 1_000_000

-- "inflow: litres per second, 0 to 100,000"
abbrev pub most_litres : ℕ
most_litres = 100_000

-- "outflow total: µm over one square, 0 to 10^15"
abbrev pub most_outflow : ℕ
most_outflow = 1_000_000_000_000_000

-- document 02, #106: "a soak rate in µm per hour", "a rate above 1,000,000 on a square not closed is 2"
abbrev pub most_soak_rate : ℕ
most_soak_rate = 1_000_000

-- document 02, #106: "a total soaked up to 10^15"
abbrev pub most_soaked : ℕ
most_soaked = 1_000_000_000_000_000

-- "At most 64 rows of each"
abbrev pub most_table_rows : ℕ
most_table_rows = 64

-- refusal 1: "D out of range"
unfoldable pub side_fine : ℕ → Bool
side_fine D = every (leb 1 D ∷ leb D most_side ∷ [])

-- refusal 2: "a rate above 1,000,000 on a square not closed" (document 02, #106)
unfoldable pub rate_fine : ℕ → Bool
rate_fine rate = leb rate most_soak_rate

-- refusal 3: "depth or P of a square not closed out of range"
unfoldable pub water_fine : ℕ → ℕ → Bool
water_fine d p = every (leb d most_depth ∷ leb p most_depth ∷ [])

-- ---- what the public functions give

abbrev pub SideJudged : ℕ → Bool → Type 0
SideJudged D r = r ≡ side_fine D

abbrev pub RateJudged : ℕ → Bool → Type 0
RateJudged rate r = r ≡ rate_fine rate

abbrev pub WaterJudged : ℕ → ℕ → Bool → Type 0
WaterJudged d p r = r ≡ water_fine d p
