-- Document 01, "Units and ranges": the tables of rain and of inflow, and what they have given by a clock.
-- Assumes nothing.
use Rattle.std.specs.Prelude.{◌≡◌, Bool, true, ◌&&◌, List, [], ◌∷◌, ℕ, ◌+◌, ◌-◌, ◌*◌, ◌/◌, ◌%◌, min, eqb, leb, length, get_or}
use Rattle.reckon.specs.Tests.{pick, every, all_below}
use Rattle.reckon.specs.Lists.{sum_below}
use Rattle.reckon.specs.Ranges.{last_clock, most_rain, most_litres, most_table_rows}
use Rattle.reckon.specs.declared.tables.Kind.{Kind}

-- "Rain rows: from, to, rate": "µm per hour, 0 to 1,000,000"
abbrev pub rain_kind : Kind
rain_kind = record { width = 3; lead = 0; most = most_rain }

-- "Inflow rows: row, column, from, to, litres": "litres per second, 0 to 100,000"
abbrev pub inflow_kind : Kind
inflow_kind = record { width = 5; lead = 2; most = most_litres }

-- "192 for rain or 320 for inflow": the numbers of a room for the most rows
abbrev pub table_room : Kind → ℕ
table_room k = k.width * most_table_rows

-- the ms of an hour
abbrev pub hour : ℕ
hour = 3_600_000

-- where row j's from stands; its to and its amount follow
abbrev pub row_start : Kind → ℕ → ℕ
row_start k j = k.width * j + k.lead

-- "A row has run by clock t for max(0, min(t, to) − from) ms" (a difference below 0 is 0)
abbrev pub ran : ℕ → ℕ → ℕ → ℕ
ran from to t = min t to - from

-- amount·time run, of the row whose from, to and amount stand at a place
unfoldable pub row_gives : List ℕ → ℕ → ℕ → ℕ
row_gives rows at t = get_or rows (at + 2) 0 * ran (get_or rows at 0) (get_or rows (at + 1) 0) t

-- "overlapping rows add": the sum over the rows that count
unfoldable pub table_gives : Kind → (ℕ → Bool) → List ℕ → ℕ → ℕ
table_gives k counts rows t = sum_below (length rows / k.width) (λ j. pick (counts j) (row_gives rows (row_start k j) t) 0)

-- "Rain by clock t: sum of rate·time run, / 3,600,000"
unfoldable pub rain_by : List ℕ → ℕ → ℕ
rain_by rows t = table_gives rain_kind (λ j. true) rows t / hour

-- the inflow row j is for the square at row r, column c
unfoldable pub on_square : List ℕ → ℕ → ℕ → ℕ → Bool
on_square rows r c j = eqb (get_or rows (inflow_kind.width * j) 0) r && eqb (get_or rows (inflow_kind.width * j + 1) 0) c

-- "Inflow by t on a square: sum of litres·time run, / D²"
unfoldable pub inflow_by : List ℕ → ℕ → ℕ → ℕ → ℕ → ℕ
inflow_by rows r c side t = table_gives inflow_kind (on_square rows r c) rows t / (side * side)

-- "What a step adds is the amount by its end less the amount by its start"
abbrev pub rain_added : List ℕ → ℕ → ℕ → ℕ
rain_added rows start end = rain_by rows end - rain_by rows start

abbrev pub inflow_added : List ℕ → ℕ → ℕ → ℕ → ℕ → ℕ → ℕ
inflow_added rows r c side start end = inflow_by rows r c side end - inflow_by rows r c side start

-- ---- refusal 4, but for the square of an inflow row: "odd length (3s, 5s), over 64 rows, a value out of range, from > to"

unfoldable pub row_fine : ℕ → List ℕ → ℕ → Bool
row_fine most rows at =
    every (leb (get_or rows at 0) (get_or rows (at + 1) 0) ∷ leb (get_or rows (at + 1) 0) last_clock ∷ leb (get_or rows (at + 2) 0) most ∷ [])

unfoldable pub table_fine : Kind → List ℕ → Bool
table_fine k rows =
    every
    (eqb (length rows % k.width) 0
    ∷ leb (length rows / k.width) most_table_rows
    ∷ all_below (length rows / k.width) (λ j. row_fine k.most rows (row_start k j))
    ∷ [])

-- ---- what the public functions give

abbrev pub RainJudged : List ℕ → Bool → Type 0
RainJudged rows r = r ≡ table_fine rain_kind rows

abbrev pub InflowJudged : List ℕ → Bool → Type 0
InflowJudged rows r = r ≡ table_fine inflow_kind rows

abbrev pub RowOn : List ℕ → ℕ → ℕ → ℕ → Bool → Type 0
RowOn rows j r c x = x ≡ on_square rows r c j

abbrev pub RainBy : List ℕ → ℕ → ℕ → Type 0
RainBy rows t r = r ≡ rain_by rows t

abbrev pub InflowBy : List ℕ → ℕ → ℕ → ℕ → ℕ → ℕ → Type 0
InflowBy rows r c side t x = x ≡ inflow_by rows r c side t

abbrev pub RainAdded : List ℕ → ℕ → ℕ → ℕ → Type 0
RainAdded rows start end r = r ≡ rain_added rows start end

abbrev pub InflowAdded : List ℕ → ℕ → ℕ → ℕ → ℕ → ℕ → ℕ → Type 0
InflowAdded rows r c side start end x = x ≡ inflow_added rows r c side start end
