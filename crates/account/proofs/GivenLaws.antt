-- Laws of what the tables give: it is the rain on so many squares, and inflow by its rows; and the most of it, so that the sums stay below 64 bits.
-- Assumes nothing.
use mathlib.Core.Path.{◌≡◌, refl, sym, ap, ap₂, ◌∙◌}
use mathlib.Core.Bool.{Bool, true, false}
use mathlib.Core.List.{List}
use Prim.Native.Nat.{ℕ, zero, suc, ◌+◌, ◌*◌, ◌/◌, ◌%◌, ◌^◌, ◌≤◌, ◌<◌}
use native.Mathlib.Nat.{le_refl, le_trans, zero-mul, suc-mul, mul-le-mul}
use native.Mathlib.Numerals.{add-one}
use native.Mathlib.Omega.{arith}
use lib.ListN.{length}
use Rattle.reckon.specs.Tests.{pick}
use Rattle.reckon.specs.Ranges.{most_rain, last_clock}
use Rattle.reckon.specs.Tables.{rain_kind, inflow_kind, hour, table_gives, rain_by, rain_added, inflow_added}
use Rattle.reckon.specs.Inner.Fits.{Fits}
use Rattle.reckon.proofs.QuotientLaws.{div_mono}
use Rattle.reckon.proofs.TestLaws.{pick_both}
use Rattle.reckon.proofs.ListLaws.{sum_le}
use Rattle.reckon.proofs.TableLaws.{terms_le, inflow_le, fine_fits}
use Rattle.grid.specs.Squares.{most_squares, squares}
use Rattle.grid.specs.Marks.{inflow_words, inflow_row, inflow_column}
use Rattle.ledger.specs.Runs.{Plan}
use Rattle.ledger.specs.Flows.{shut}
use Rattle.ledger.specs.Account.{over_open}
use Rattle.ledger.proofs.Account.{open_add, open_zero}
use Rattle.checks.specs.Given.{Given}
use Rattle.adding.specs.Added.{added_for}
use Rattle.adding.specs.Account.{tables_give}
use Rattle.adding.specs.Inner.Added.{Between, row_alone, poured_once}
use Rattle.adding.proofs.OnceLaws.{inflow_by_rows}
use Rattle.account.specs.Inner.Given.{open_squares, inflow_gives, most_fallen, most_poured}

-- a square's water is a 32-bit number, or 0
pub water_small : (closed : Bool) {depth : ℕ} → depth < 2 ^ 32 → pick closed 0 depth < 2 ^ 32
unfolding pick
water_small true h = omega arith
water_small false h = h

-- a square counts for 1 at most
pub one_small : (closed : Bool) → pick closed 0 1 ≤ 1
one_small closed = pick_both (λ (n : ℕ). n ≤ 1) closed (omega arith) (omega arith)

-- not more squares are open than there are
pub open_few : (p : Plan) → open_squares p ≤ squares p.shape
unfolding open_squares over_open
open_few p = omega (arith, sum_le (squares p.shape) 1 (λ i. pick (shut p i) 0 1) (λ i l. one_small (shut p i)))

-- the same number on each square not closed
pub open_same : (p : Plan) (n : ℕ) → over_open p (λ i. n) ≡ n * open_squares p
unfolding open_squares
open_same p zero = open_zero p (λ i. 0) (λ i l c. refl) ∙ sym (zero-mul (over_open p (λ i. 1)))
open_same p (suc n) =
    ap (λ (k : ℕ). over_open p (λ i. k)) (sym (add-one n))
    ∙ (open_add p (λ i. n) (λ i. 1) ∙ (ap (λ (x : ℕ). x + over_open p (λ i. 1)) (open_same p n) ∙ sym (suc-mul n (over_open p (λ i. 1)))))

-- what a row counts for
pub once_small :
    (inflow : List ℕ) (side start : ℕ) {end : ℕ} → Fits inflow_kind inflow end → (j : ℕ) → poured_once inflow side start end j ≤ most_poured
unfolding poured_once
once_small inflow side start f j =
    pick_both (λ (n : ℕ). n ≤ most_poured) (row_alone inflow j)
    (omega (arith, inflow_le inflow (inflow_row inflow j) (inflow_column inflow j) side f)) (omega arith)

pub inflow_small : (inflow : List ℕ) (side start : ℕ) {end : ℕ} → Fits inflow_kind inflow end → inflow_gives inflow side start end ≤ 64 * most_poured
unfolding inflow_gives
inflow_small inflow side start f =
    let sum = sum_le (length inflow / inflow_words) most_poured _ (λ j h. once_small inflow side start f j) in omega (arith, sum, f.few)

module _ (p : Plan) (g : Given) (start end : ℕ) (b : Between p g start end) where
  pub rain_asked : Fits rain_kind g.rain end
  rain_asked = fine_fits rain_kind g.rain end b.waters.rain b.end_to

  pub inflow_asked : Fits inflow_kind g.inflow end
  inflow_asked = fine_fits inflow_kind g.inflow end b.waters.inflow b.end_to

  -- rain of a whole week, 64 rows at the most
  rain_most : rain_by g.rain end ≤ most_fallen
  unfolding rain_by table_gives
  rain_most =
      let sum = terms_le rain_kind (λ j. true) g.rain rain_asked (length g.rain / rain_kind.width) (le_refl _) in
      le_trans (div_mono hour {b = 64 * (most_rain * last_clock)} (omega (arith, sum, rain_asked.few))) (omega arith)

  pub fallen_small : rain_added g.rain start end ≤ most_fallen
  fallen_small = omega (arith, rain_most)

  abbrev side : ℕ
  side = g.lie.rules.square_side

  -- rain and inflow apart
  pub gives_is : tables_give p g start end ≡ rain_added g.rain start end * open_squares p + inflow_gives g.inflow side start end
  unfolding tables_give added_for inflow_gives
  gives_is =
      open_add p (λ i. rain_added g.rain start end) (λ i. inflow_added g.inflow (i / p.shape.columns) (i % p.shape.columns) side start end)
      ∙ ap₂ ◌+◌ (open_same p (rain_added g.rain start end)) (inflow_by_rows p g.inflow side start end b.waters.inflow_squares)

  -- below 2^58
  pub tables_most : tables_give p g start end ≤ most_squares * most_fallen + 64 * most_poured
  tables_most =
      let most = mul-le-mul fallen_small (open_few p) in
      omega (arith, gives_is, most, b.waters.fine.few, inflow_small g.inflow side start inflow_asked)
