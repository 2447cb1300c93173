-- Laws of marks: a mark past the end is closed, and the checks square by square and row by row.
-- Assumes nothing.
use mathlib.Core.Path.{◌≡◌, refl, sym, ap, ap₂, ◌∙◌}
use mathlib.Core.Bool.{Bool, true, false, not}
use mathlib.Core.List.{List}
use Prim.Native.Nat.{ℕ, ◌≤◌, ◌<◌}
use native.Mathlib.Decide.{dec_lt}
use native.Mathlib.Omega.{arith}
use lib.ListN.{length, get_or-eq_default}
use borrow.Author.Tests.{lt-ltb, le-ltb, eq-eqb}
use Rattle.reckon.specs.Tests.{pick}
use Rattle.reckon.proofs.TestLaws.{not_both, pick_true, pick_false, each_every, every_fails}
use Rattle.grid.specs.declared.squares.Shape.{Shape}
use Rattle.grid.specs.Squares.{square_at}
use Rattle.grid.specs.Marks.{closed, inflow_row, inflow_column, inflow_square_fine}

-- ---- closed squares

pub closed_past : (marks : List ℕ) (i : ℕ) → length marks ≤ i → closed marks i ≡ true
unfolding closed
closed_past marks i h = eq-eqb _ _ (get_or-eq_default marks 0 h)

-- a square that is not closed has a mark
pub marked : (marks : List ℕ) (i : ℕ) → closed marks i ≡ false → i < length marks
marked marks i e = go (dec_lt i (length marks))
  where
    go : Dec (i < length marks) → i < length marks
    go (yes h) = h
    go (no h) = not_both (closed_past marks i (omega arith)) e

-- what is the same where a square is not closed is the same behind the choice
pub unless_closed :
    {A : Type 0} (marks : List ℕ) (i : ℕ) (x : A) {y z : A} → (closed marks i ≡ false → y ≡ z) →
    pick (closed marks i) x y ≡ pick (closed marks i) x z
unless_closed marks i x {y} {z} f = go (closed marks i) refl
  where
    go : (b : Bool) → closed marks i ≡ b → pick (closed marks i) x y ≡ pick (closed marks i) x z
    go true e = pick_true x y e ∙ sym (pick_true x z e)
    go false e = pick_false x y e ∙ (f e ∙ sym (pick_false x z e))

-- ---- an inflow row's square

module _ (s : Shape) (marks rows : List ℕ) (j : ℕ) where
  pub inflow_no_row : {row : ℕ} → row ≡ inflow_row rows j → s.rows ≤ row → false ≡ inflow_square_fine s marks rows j
  unfolding inflow_square_fine
  inflow_no_row e h = sym (every_fails _ 0 (le-ltb (inflow_row rows j) s.rows (omega arith)))

  pub inflow_no_column : {column : ℕ} → column ≡ inflow_column rows j → s.columns ≤ column → false ≡ inflow_square_fine s marks rows j
  unfolding inflow_square_fine
  inflow_no_column e h = sym (every_fails _ 1 (le-ltb (inflow_column rows j) s.columns (omega arith)))

  -- on the grid its mark decides
  module _ {row column at : ℕ} {b : Bool} (r : row ≡ inflow_row rows j) (c : column ≡ inflow_column rows j)
      (a : at ≡ square_at s row column) (e : b ≡ closed marks at) where
    same : b ≡ closed marks (square_at s (inflow_row rows j) (inflow_column rows j))
    same = e ∙ ap (closed marks) (a ∙ ap₂ (square_at s) r c)

    pub inflow_on_closed : b ≡ true → false ≡ inflow_square_fine s marks rows j
    unfolding inflow_square_fine
    inflow_on_closed t = sym (every_fails _ 2 (ap not (sym same ∙ t)))

    pub inflow_on_open : row < s.rows → column < s.columns → b ≡ false → true ≡ inflow_square_fine s marks rows j
    unfolding inflow_square_fine
    inflow_on_open h g t =
        let on_row : inflow_row rows j < s.rows = omega arith in
        let on_column : inflow_column rows j < s.columns = omega arith in
        sym (each_every _ (lt-ltb _ _ on_row, (lt-ltb _ _ on_column, (ap not (sym same ∙ t), tt))))
