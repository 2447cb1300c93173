-- Laws of the tables, over both kinds: how large a term and a sum can be, that what a table has given never falls, and that a table
-- which passes its test is in range.
-- Assumes nothing.
use mathlib.Core.Path.{◌≡◌, ◌∙◌, ap}
use mathlib.Core.Bool.{Bool, true, false}
use mathlib.Core.List.{List, [], ◌∷◌}
use Prim.Native.Nat.{ℕ, ◌+◌, ◌*◌, ◌/◌, ◌%◌, ◌≤◌, ◌<◌}
use native.Mathlib.Nat.{le_refl, le_trans, mul-le-mul, mul-le-mul_left, div-le_self, mul-zero, zero-div}
use native.Mathlib.Omega.{arith}
use lib.Dec.{eqb, leb}
use lib.ListN.{length, get_or}
use borrow.Author.Tests.{leb-true, le-leb, lt-leb, eq-eqb, ne_eqb}
use Rattle.reckon.specs.Tests.{pick, every, all_below}
use Rattle.reckon.specs.Lists.{sum_below}
use Rattle.reckon.specs.Ranges.{last_clock, most_rain, most_litres, most_table_rows}
use Rattle.reckon.specs.Tables.{rain_kind, inflow_kind, hour, row_start, ran, row_gives, table_gives, rain_by, on_square, inflow_by, row_fine, table_fine}
use Rattle.reckon.specs.Inner.Fits.{Fits}
use Rattle.reckon.specs.declared.tables.Kind.{Kind}
use Rattle.reckon.proofs.TestLaws.{pick_false, pick_same, pick_both, and_true, every_each, each_every, every_fails, all_at, all_fails}
use Rattle.reckon.proofs.ListLaws.{sum_mono, sum_le, sum_whole, sum_zero}
use Rattle.reckon.proofs.QuotientLaws.{div_mono}

-- ---- one row

pub gives_le : (rows : List ℕ) (at t b : ℕ) → get_or rows (at + 2) 0 ≤ b → t ≤ last_clock → row_gives rows at t ≤ b * last_clock
unfolding row_gives
gives_le rows at t b h l = mul-le-mul h (omega arith)

gives_mono : (rows : List ℕ) (at : ℕ) {t u : ℕ} → t ≤ u → row_gives rows at t ≤ row_gives rows at u
unfolding row_gives
gives_mono rows at h = mul-le-mul_left _ (omega arith)

-- the product as the code forms it
pub gives_made :
    (rows : List ℕ) (at t : ℕ) {from to amount time : ℕ} →
    from ≡ get_or rows at 0 → to ≡ get_or rows (at + 1) 0 → amount ≡ get_or rows (at + 2) 0 → time ≡ ran from to t →
    amount * time ≡ row_gives rows at t
unfolding row_gives
gives_made rows at t f o a r = rw (r, f, o, a)

pick_mono : (x : Bool) {a b : ℕ} → a ≤ b → pick x a 0 ≤ pick x b 0
unfolding pick
pick_mono true h = h
pick_mono false h = le_refl 0

-- ---- the rows that count, summed

-- what row j adds to the sum
abbrev pub term : Kind → (ℕ → Bool) → List ℕ → ℕ → ℕ → ℕ
term k counts rows t j = pick (counts j) (row_gives rows (row_start k j) t) 0

module _ (k : Kind) (counts : ℕ → Bool) (rows : List ℕ) where
  pub term_le : {t : ℕ} → Fits k rows t → (j : ℕ) → j < length rows / k.width → term k counts rows t j ≤ k.most * last_clock
  term_le {t} f j h =
      pick_both (λ (x : ℕ). x ≤ k.most * last_clock) (counts j) (gives_le rows (row_start k j) t k.most (f.amounts j h) f.clock) (omega arith)

  -- the sum over the first j rows
  pub terms_le : {t : ℕ} → Fits k rows t → (j : ℕ) → j ≤ length rows / k.width → sum_below j (term k counts rows t) ≤ j * (k.most * last_clock)
  terms_le f j h = sum_le j _ _ (λ i l. term_le f i (omega arith))

  given_mono : {t u : ℕ} → t ≤ u → table_gives k counts rows t ≤ table_gives k counts rows u
  unfolding table_gives
  given_mono h = sum_mono _ _ _ (λ j l. pick_mono (counts j) (gives_mono rows (row_start k j) h))

-- how much a table can have table_gives at the most, as a bound far below 64 bits
pub rain_le : (rows : List ℕ) {t : ℕ} → Fits rain_kind rows t → rain_by rows t ≤ 64 * (most_rain * last_clock)
unfolding rain_by table_gives
rain_le rows {t} f =
    le_trans (div-le_self _ hour) (omega (arith, terms_le rain_kind (λ j. true) rows f (length rows / rain_kind.width) (le_refl _), f.few))

pub inflow_le : (rows : List ℕ) (r c side : ℕ) {t : ℕ} → Fits inflow_kind rows t → inflow_by rows r c side t ≤ 64 * (most_litres * last_clock)
unfolding inflow_by table_gives
inflow_le rows r c side {t} f =
    le_trans (div-le_self _ (side * side)) (omega (arith, terms_le inflow_kind (on_square rows r c) rows f (length rows / inflow_kind.width) (le_refl _), f.few))

-- the sum over all rows, as the code forms it
pub inflow_made :
    (rows : List ℕ) (r c side t : ℕ) {s j : ℕ} → s ≡ sum_below j (term inflow_kind (on_square rows r c) rows t) → j ≡ length rows / inflow_kind.width →
    s / (side * side) ≡ inflow_by rows r c side t
unfolding inflow_by table_gives
inflow_made rows r c side t e h = ap (λ (x : ℕ). x / (side * side)) (sum_whole _ e h)

-- a square that no inflow row is for gets nothing
pub inflow_none :
    (rows : List ℕ) (r c side t : ℕ) → ((j : ℕ) → j < length rows / inflow_kind.width → on_square rows r c j ≡ false) → inflow_by rows r c side t ≡ 0
unfolding inflow_by table_gives
inflow_none rows r c side t h =
    ap (λ (x : ℕ). x / (side * side)) (sum_zero (length rows / inflow_kind.width) _ (λ j l. pick_false _ _ (h j l))) ∙ zero-div (side * side)

-- every rain row counts, and it starts with its from
pub rain_term : (rows : List ℕ) (t j : ℕ) → row_gives rows (rain_kind.width * j) t ≡ term rain_kind (λ i. true) rows t j
unfolding pick
rain_term rows t j = ap (λ (at : ℕ). row_gives rows at t) (omega arith)

-- whether an inflow row counts for a square
module _ (rows : List ℕ) (r c j : ℕ) where
  pub other_row : (get_or rows (inflow_kind.width * j) 0 ≡ r → ⊥) → on_square rows r c j ≡ false
  unfolding on_square
  other_row h = rw (ne_eqb _ _ h)

  -- of a row for the square's row its column decides
  pub by_column : get_or rows (inflow_kind.width * j) 0 ≡ r → on_square rows r c j ≡ eqb (get_or rows (inflow_kind.width * j + 1) 0) c
  unfolding on_square
  by_column e = rw (eq-eqb _ _ e)

-- ---- what a table has table_gives never falls

pub rain_mono : (rows : List ℕ) {t u : ℕ} → t ≤ u → rain_by rows t ≤ rain_by rows u
unfolding rain_by
rain_mono rows h = div_mono hour (given_mono rain_kind (λ j. true) rows h)

pub inflow_mono : (rows : List ℕ) (r c side : ℕ) {t u : ℕ} → t ≤ u → inflow_by rows r c side t ≤ inflow_by rows r c side u
unfolding inflow_by
inflow_mono rows r c side h = div_mono (side * side) (given_mono inflow_kind (on_square rows r c) rows h)

-- ---- the test of a row and of a table, as the code finds it

module _ (most : ℕ) (rows : List ℕ) (at : ℕ) where
  abbrev row_tests : List Bool
  row_tests = leb (get_or rows at 0) (get_or rows (at + 1) 0) ∷ leb (get_or rows (at + 1) 0) last_clock ∷ leb (get_or rows (at + 2) 0) most ∷ []

  pub row_backwards : get_or rows (at + 1) 0 < get_or rows at 0 → row_fine most rows at ≡ false
  unfolding row_fine
  row_backwards h = every_fails row_tests 0 (lt-leb _ _ h)

  pub row_late : last_clock < get_or rows (at + 1) 0 → row_fine most rows at ≡ false
  unfolding row_fine
  row_late h = every_fails row_tests 1 (lt-leb _ _ h)

  pub row_amount :
      get_or rows at 0 ≤ get_or rows (at + 1) 0 → get_or rows (at + 1) 0 ≤ last_clock → row_fine most rows at ≡ leb (get_or rows (at + 2) 0) most
  unfolding row_fine every
  row_amount a b = rw (le-leb _ _ a, le-leb _ _ b) (and_true (leb (get_or rows (at + 2) 0) most))

module _ (k : Kind) (rows : List ℕ) where
  abbrev pub row_passes : ℕ → Bool
  row_passes j = row_fine k.most rows (row_start k j)

  abbrev tests : List Bool
  tests = eqb (length rows % k.width) 0 ∷ leb (length rows / k.width) most_table_rows ∷ all_below (length rows / k.width) row_passes ∷ []

  pub table_odd : (length rows % k.width ≡ 0 → ⊥) → table_fine k rows ≡ false
  unfolding table_fine
  table_odd h = every_fails tests 0 (ne_eqb _ _ h)

  pub table_many : most_table_rows < length rows / k.width → table_fine k rows ≡ false
  unfolding table_fine
  table_many h = every_fails tests 1 (lt-leb _ _ h)

  pub table_row : (j : ℕ) → j < length rows / k.width → row_passes j ≡ false → table_fine k rows ≡ false
  unfolding table_fine
  table_row j h e = every_fails tests 2 (all_fails (length rows / k.width) row_passes j h e)

  pub table_passes :
      length rows % k.width ≡ 0 → length rows / k.width ≤ most_table_rows → all_below (length rows / k.width) row_passes ≡ true →
      table_fine k rows ≡ true
  unfolding table_fine
  table_passes a b e = each_every tests (eq-eqb _ _ a, (le-leb _ _ b, (e, tt)))

  -- a table that passes its test is in range
  pub fine_fits : (t : ℕ) → table_fine k rows ≡ true → t ≤ last_clock → Fits k rows t
  unfolding table_fine row_fine
  fine_fits t e h =
      let p = every_each tests e in
      record {
        few = leb-true _ _ p.1.0;
        amounts =
            λ j l.
            let r = every_each (row_tests k.most rows (row_start k j)) (all_at (length rows / k.width) row_passes p.1.1.0 j l) in
            leb-true _ _ r.1.1.0;
        clock = h;
      }

-- ---- nothing has been given by clock 0

gives-start : (rows : List ℕ) (at : ℕ) → row_gives rows at 0 ≡ 0
unfolding row_gives
gives-start rows at = ap (λ (x : ℕ). get_or rows (at + 2) 0 * x) (omega arith) ∙ mul-zero (get_or rows (at + 2) 0)

given-start : (k : Kind) (counts : ℕ → Bool) (rows : List ℕ) → table_gives k counts rows 0 ≡ 0
unfolding table_gives
given-start k counts rows =
    sum_zero _ _ (λ j l. ap (λ (x : ℕ). pick (counts j) x 0) (gives-start rows (row_start k j)) ∙ pick_same (counts j) 0)

pub rain_start : (rows : List ℕ) → rain_by rows 0 ≡ 0
unfolding rain_by
rain_start rows = rw (given-start rain_kind (λ j. true) rows) (zero-div hour)

pub inflow_start : (rows : List ℕ) (r c side : ℕ) → inflow_by rows r c side 0 ≡ 0
unfolding inflow_by
inflow_start rows r c side = rw (given-start inflow_kind (on_square rows r c) rows) (zero-div (side * side))
