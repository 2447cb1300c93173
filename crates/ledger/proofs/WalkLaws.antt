-- Laws of walks over the squares: a walk carries the column; a room is filled square by square; what left the grid and what soaked is summed.
-- Assumes nothing.
use mathlib.Core.Path.{◌≡◌, refl, sym, ap, ◌∙◌}
use mathlib.Core.Bool.{Bool, true, false}
use mathlib.Core.List.{List}
use Prim.Native.Nat.{ℕ, ◌+◌, ◌%◌, ◌≤◌, ◌<◌}
use native.Mathlib.Nat.{zero-mod}
use native.Mathlib.Omega.{arith}
use lib.ListN.{length, set}
use Rattle.std.proofs.Common.{Some, None}
use Rattle.reckon.specs.Tests.{pick}
use Rattle.reckon.specs.Lists.{filled, sum_below}
use Rattle.reckon.proofs.TestLaws.{not_both, pick_true, pick_false}
use Rattle.reckon.proofs.ListLaws.{length-filled, filled_store, filled_keep, sum_whole}
use Rattle.grid.specs.declared.squares.Shape.{Shape}
use Rattle.grid.specs.Squares.{squares, ShapeInRange, OnSquare, NextColumn}
use Rattle.grid.proofs.SquareLaws.{carried}
use Rattle.ledger.specs.Runs.{Plan}
use Rattle.ledger.specs.Flows.{off_square, off_grid, soaked_square, soaked_grid}
use Rattle.ledger.specs.Record.{leaves_in, soaked_in}
use Rattle.ledger.specs.Inner.Walks.{Walked}

-- ---- where a walk stands

pub record Walk (s : Shape) (n square column : ℕ) : Type 0 where
  pub whole : n ≡ squares s
  pub so_far : square ≤ n
  pub column_is : column ≡ square % s.columns

module _ (s : Shape) where
  pub walk_none : {n : ℕ} → n ≡ squares s → Walk s n 0 0
  walk_none e = record { whole = e; so_far = omega arith; column_is = sym (zero-mod s.columns) }

  module _ {n square column : ℕ} (w : Walk s n square column) where
    pub walk_stands : ShapeInRange s → square < n → OnSquare s square column
    walk_stands f h = record { fine = f; inside = omega (arith, w.whole); column_is = w.column_is }

    pub walk_next : {next : ℕ} → square < n → NextColumn s column next → Walk s n (square + 1) next
    walk_next h e = record { whole = w.whole; so_far = omega arith; column_is = carried s square w.column_is e }

    pub walk_end : n ≤ square → square ≡ squares s
    walk_end h = omega (arith, w.whole, w.so_far)

-- ---- a room that a walk fills

pub filled_long : (n : ℕ) (skipped : ℕ → Bool) (f : ℕ → ℕ) (old : List ℕ) {l : List ℕ} → l ≡ filled n skipped f old → length l ≡ length old
filled_long n skipped f old e = ap length e ∙ length-filled n skipped f old

module _ (skipped : ℕ → Bool) (f : ℕ → ℕ) (old : List ℕ) {i : ℕ} (h : i < length old) {l : List ℕ} (e : l ≡ filled i skipped f old) where
  filled_put : skipped i ≡ false → {v : ℕ} → v ≡ f i → set l i v ≡ filled (i + 1) skipped f old
  filled_put s {v} q = ap (λ (m : List ℕ). set m i v) e ∙ filled_store skipped f old i h s q

  -- one square more: stored, unless it is skipped
  pub filled_turn : {v : ℕ} {l' : List ℕ} → (skipped i ≡ false → v ≡ f i) → l' ≡ pick (skipped i) l (set l i v) → l' ≡ filled (i + 1) skipped f old
  filled_turn {v} {l'} q p = go (skipped i) refl
    where
      go : (b : Bool) → skipped i ≡ b → l' ≡ filled (i + 1) skipped f old
      go true s = p ∙ (pick_true _ _ s ∙ (e ∙ filled_keep skipped f old i h (λ z. not_both s z)))
      go false s = p ∙ (pick_false _ _ s ∙ filled_put s (q s))

pub filled_whole : (skipped : ℕ → Bool) (f : ℕ → ℕ) (old : List ℕ) {n m : ℕ} {l : List ℕ} → l ≡ filled n skipped f old → n ≡ m → l ≡ filled m skipped f old
filled_whole skipped f old e h = e ∙ ap (λ (k : ℕ). filled k skipped f old) h

-- ---- what a walk finds

module _ (p : Plan) (rec : List ℕ) {test : Bool} where
  pub walked_unfit : test ≡ false → Walked p rec test None
  walked_unfit e = record { fits_is = sym e; off_is = tt; soaked_is = tt }

  pub walked_fit :
      test ≡ true → {n off soaked : ℕ} → off ≡ sum_below n (off_square p (leaves_in rec)) → soaked ≡ sum_below n (soaked_square p (soaked_in rec)) →
      n ≡ squares p.shape → Walked p rec test (Some (record { off = off; soaked = soaked }))
  unfolding off_grid soaked_grid
  walked_fit e s t h = record { fits_is = sym e; off_is = sum_whole _ s h; soaked_is = sum_whole _ t h }
