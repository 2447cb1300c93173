-- Laws of inflow by its rows: over all squares not closed it is what each row adds to its square, each square counted once.
-- Assumes nothing.
use mathlib.Core.Path.{◌≡◌, refl, sym, ap, ap₂, ◌∙◌, subst}
use mathlib.Core.Bool.{Bool, true, false, not}
use mathlib.Core.List.{List}
use Prim.Native.Nat.{ℕ, zero, suc, ◌+◌, ◌-◌, ◌/◌, ◌%◌, ◌≤◌, ◌<◌}
use native.Mathlib.Nat.{add-zero, zero-add, le_refl}
use native.Mathlib.Numerals.{add-one}
use native.Mathlib.Decide.{ℕ_discrete}
use native.Mathlib.Omega.{arith}
use lib.Dec.{eqb}
use lib.ListN.{length}
use borrow.Author.Tests.{eq-eqb, ne_eqb, lt-ltb, not-true}
use Rattle.reckon.specs.Tests.{pick, all_below}
use Rattle.reckon.specs.Lists.{sum_below}
use Rattle.reckon.specs.Tables.{on_square, inflow_added, inflow_by}
use Rattle.reckon.proofs.TestLaws.{pick_true, pick_false, no_more, all_none, all_at, all_fails, all_beside}
use Rattle.reckon.proofs.ListLaws.{sum_none, sum_more, sum_ext}
use Rattle.reckon.proofs.SumLaws.{sum_one}
use Rattle.reckon.proofs.TableLaws.{inflow_none}
use Rattle.grid.specs.Squares.{squares, square_at}
use Rattle.grid.specs.Marks.{inflow_words, inflow_row, inflow_column, inflow_squares_fine}
use Rattle.grid.proofs.SquareLaws.{square_within, row_of, column_of}
use Rattle.ledger.specs.Runs.{Plan}
use Rattle.ledger.specs.Flows.{shut}
use Rattle.ledger.specs.Account.{over_open}
use Rattle.ledger.proofs.Account.{open_add, open_ext, open_zero}
use Rattle.adding.specs.Inner.Added.{row_alone, rows_apart, poured_once}
use Rattle.adding.proofs.AddedLaws.{row_for, row_counts, rows_fine}

-- ---- one row, as the code works it

module _ (inflow : List ℕ) (j : ℕ) where
  pub apart_alone : rows_apart inflow ≡ true → j < length inflow / inflow_words → row_alone inflow j ≡ true
  unfolding rows_apart
  apart_alone e h = all_at (length inflow / inflow_words) (row_alone inflow) e j h

  module _ (side start end : ℕ) where
    pub once_not : row_alone inflow j ≡ false → 0 ≡ poured_once inflow side start end j
    unfolding poured_once
    once_not e = sym (pick_false _ _ e)

    pub once_is :
        {row column n : ℕ} → row_alone inflow j ≡ true → row ≡ inflow_row inflow j → column ≡ inflow_column inflow j →
        n ≡ inflow_added inflow row column side start end → n ≡ poured_once inflow side start end j
    unfolding poured_once
    once_is e r c h = h ∙ (ap₂ (λ (a b : ℕ). inflow_added inflow a b side start end) r c ∙ sym (pick_true _ _ e))

-- ---- a number at one square

pick_swap : (b c : Bool) (x : ℕ) → pick b 0 (pick c x 0) ≡ pick c (pick b 0 x) 0
unfolding pick
pick_swap true true x = refl
pick_swap true false x = refl
pick_swap false true x = refl
pick_swap false false x = refl

pick_either : (b : Bool) (x : ℕ) → pick b 0 x + pick b x 0 ≡ x
unfolding pick
pick_either true x = zero-add x
pick_either false x = add-zero x

-- a sum over squares not closed to which one of them adds, and no other
open_one : (p : Plan) (k : ℕ) (g : ℕ → ℕ) → k < squares p.shape → shut p k ≡ false → over_open p (λ i. pick (eqb i k) (g i) 0) ≡ g k
unfolding over_open
open_one p k g h c =
    sum_ext (squares p.shape) _ _ (λ i l. pick_swap (shut p i) (eqb i k) (g i))
    ∙ (sum_one (squares p.shape) k (λ i. pick (shut p i) 0 (g i)) ∙ (pick_true _ _ (lt-ltb k (squares p.shape) h) ∙ pick_false _ _ c))

-- ---- row after row

module _ (p : Plan) (inflow : List ℕ) (side start end : ℕ) (fine : inflow_squares_fine p.shape p.marks inflow ≡ true) where
  abbrev row_count : ℕ
  row_count = length inflow / inflow_words

  abbrev on : ℕ → ℕ → Bool
  on i = on_square inflow (i / p.shape.columns) (i % p.shape.columns)

  -- what inflow adds to a square
  abbrev pours : ℕ → ℕ
  pours i = inflow_added inflow (i / p.shape.columns) (i % p.shape.columns) side start end

  abbrev rows_place : ℕ → ℕ
  rows_place j = square_at p.shape (inflow_row inflow j) (inflow_column inflow j)

  -- none of the first n rows is for a square
  abbrev free : ℕ → ℕ → Bool
  free n i = all_below n (λ k. not (on i k))

  -- what the squares get that one of the first n rows is for
  abbrev reached : ℕ → ℕ → ℕ
  reached n i = pick (free n i) 0 (pours i)

  module _ (n : ℕ) (h : n < row_count) where
    -- row n brings its own square, unless a row before it has brought it
    abbrev brings : ℕ → ℕ
    brings i = pick (free n i) (pours i) 0

    here : (i : ℕ) → i ≡ rows_place n → reached (n + 1) i ≡ reached n i + brings i
    here i e =
        pick_false _ _ (all_fails (n + 1) _ n (omega arith) (ap not (row_counts p.shape inflow n (rows_fine p inflow fine n h).1 e)))
        ∙ sym (pick_either (free n i) (pours i))

    elsewhere : (i : ℕ) → (i ≡ rows_place n → ⊥) → reached (n + 1) i ≡ reached n i
    elsewhere i d =
        ap (λ (b : Bool). pick b 0 (pours i))
        (all_beside n (λ k. not (on i k)) (ap not (no_more (on i n) (λ t. d (sym (row_for p.shape inflow n i t))))))

    reached_more : (i : ℕ) → reached (n + 1) i ≡ reached n i + pick (eqb i (rows_place n)) (brings i) 0
    reached_more i = go (ℕ_discrete i (rows_place n))
      where
        go : Dec (i ≡ rows_place n) → reached (n + 1) i ≡ reached n i + pick (eqb i (rows_place n)) (brings i) 0
        go (yes e) = here i e ∙ ap (λ (x : ℕ). reached n i + x) (sym (pick_true _ _ (eq-eqb i (rows_place n) e)))
        go (no d) = elsewhere i d ∙ (sym (add-zero (reached n i)) ∙ ap (λ (x : ℕ). reached n i + x) (sym (pick_false _ _ (ne_eqb i (rows_place n) d))))

    -- which is what is counted for the row
    brings-once : brings (rows_place n) ≡ poured_once inflow side start end n
    unfolding poured_once row_alone
    brings-once =
        ap₂ (λ (a b : ℕ). pick (all_below n (λ k. not (on_square inflow a b k))) (inflow_added inflow a b side start end) 0)
        (row_of p.shape (inflow_row inflow n) (rows_fine p inflow fine n h).1) (column_of p.shape (inflow_row inflow n) (rows_fine p inflow fine n h).1)

    sum_row : over_open p (reached (n + 1)) ≡ over_open p (reached n) + poured_once inflow side start end n
    sum_row =
        open_ext p (reached (n + 1)) (λ i. reached n i + pick (eqb i (rows_place n)) (brings i) 0) (λ i l c. reached_more i)
        ∙ (open_add p (reached n) (λ i. pick (eqb i (rows_place n)) (brings i) 0)
        ∙ ap (λ (x : ℕ). over_open p (reached n) + x)
        (open_one p (rows_place n) brings (square_within p.shape (rows_fine p inflow fine n h).0 (rows_fine p inflow fine n h).1) (rows_fine p inflow fine n h).2 ∙ brings-once))

  by_row : (n : ℕ) → n ≤ row_count → over_open p (reached n) ≡ sum_below n (poured_once inflow side start end)
  by_row zero h = open_zero p _ (λ i l c. pick_true _ _ (all_none _)) ∙ sym (sum_none _)
  by_row (suc n) h =
      subst (λ (k : ℕ). over_open p (reached k) ≡ sum_below k (poured_once inflow side start end)) (add-one n)
      (sum_row n (omega arith)
      ∙ (ap (λ (x : ℕ). x + poured_once inflow side start end n) (by_row n (omega arith)) ∙ sym (sum_more n (poured_once inflow side start end))))

  -- a square that no row is for gets none
  all_reached : (i : ℕ) → (b : Bool) → free row_count i ≡ b → reached row_count i ≡ pours i
  all_reached i true e =
      let none : (t : ℕ) → inflow_by inflow (i / p.shape.columns) (i % p.shape.columns) side t ≡ 0
      = λ t. inflow_none inflow (i / p.shape.columns) (i % p.shape.columns) side t (λ j l. not-true _ (all_at row_count _ e j l)) in
      pick_true _ _ e ∙ sym (ap₂ (λ (a b : ℕ). a - b) (none end) (none start))
  all_reached i false e = pick_false _ _ e

  pub inflow_by_rows : over_open p pours ≡ sum_below row_count (poured_once inflow side start end)
  inflow_by_rows = open_ext p pours (reached row_count) (λ i l c. sym (all_reached i (free row_count i) refl)) ∙ by_row row_count (le_refl row_count)
