-- Laws of two plans: where shape and marks are the same, and what follows where they are.
-- Assumes nothing.
use mathlib.Core.Path.{◌≡◌, refl, sym, ap, ap₂, ◌∙◌}
use mathlib.Core.Bool.{Bool, true, false}
use mathlib.Core.List.{List}
use Prim.Native.Nat.{ℕ, ◌≤◌}
use lib.Dec.{eqb}
use lib.ListN.{length, get_or, take}
use lib.Seq.{ext_get_or, get_or-take, length-take-le}
use borrow.Author.Tests.{eq-eqb, eqb-true}
use Rattle.std.specs.Bool.{Decides}
use Rattle.std.specs.Cmp.Lexicographic.{pointwise}
use Rattle.std.proofs.lemmas.Slice.Eq.{bytes_eq-Decides}
use Rattle.reckon.specs.Tests.{every, all_below}
use Rattle.reckon.proofs.TestLaws.{and_true, every_each, not_both, no_more, all_of, all_at, all_ext}
use Rattle.grid.specs.Squares.{squares}
use Rattle.grid.specs.declared.squares.Shape.{Shape}
use Rattle.ledger.specs.Runs.{Plan}
use Rattle.lists.specs.Sheets.{same_marks, same_plan}

-- ---- marks of two grids

-- two lists of one length are the same where each number is
same_below : (a b : List ℕ) → length a ≡ length b → pointwise eqb a b ≡ all_below (length a) (λ i. eqb (get_or a i 0) (get_or b i 0))
same_below a b e = go (pointwise eqb a b) refl
  where
    same : Decides (pointwise eqb a b) (a ≡ b)
    same = bytes_eq-Decides a b

    go : (r : Bool) → pointwise eqb a b ≡ r → pointwise eqb a b ≡ all_below (length a) (λ i. eqb (get_or a i 0) (get_or b i 0))
    go true h = h ∙ sym (all_of (length a) _ (λ i l. eq-eqb _ _ (ap (λ (x : List ℕ). get_or x i 0) (same.0 h))))
    go false h = h ∙ sym (no_more _ (λ t. not_both (same.1 (ext_get_or 0 a b e (λ i l. eqb-true _ _ (all_at (length a) _ t i l)))) h))

pub first_same : (n : ℕ) (a b : List ℕ) → n ≤ length a → n ≤ length b → pointwise eqb (take n a) (take n b) ≡ same_marks n a b
unfolding same_marks
first_same n a b h k =
    let long : length (take n a) ≡ n = length-take-le n a h in
    same_below (take n a) (take n b) (long ∙ sym (length-take-le n b k))
    ∙ rw long (all_ext n _ _ (λ i l. ap₂ eqb (get_or-take n a i 0 l) (get_or-take n b i 0 l)))

-- ---- two plans

module _ (p q : Plan) where
  -- of one shape: the marks decide
  pub plan-marks :
      {n : ℕ} {b : Bool} → p.shape.rows ≡ q.shape.rows → p.shape.columns ≡ q.shape.columns → n ≡ squares p.shape →
      b ≡ same_marks n p.marks q.marks → b ≡ same_plan p q
  unfolding same_plan every
  plan-marks e f h m =
      m ∙ (ap (λ (k : ℕ). same_marks k p.marks q.marks) h ∙ sym (rw (eq-eqb _ _ e, eq-eqb _ _ f) (and_true _)))

  pub same_shape : same_plan p q ≡ true → p.shape ≡ q.shape
  unfolding same_plan
  same_shape e =
      let t = every_each _ e in
      both (eqb-true _ _ t.0) (eqb-true _ _ t.1.0)
    where
      both : {a b : Shape} → a.rows ≡ b.rows → a.columns ≡ b.columns → a ≡ b
      both f g = λ j. record { rows = f j; columns = g j }
