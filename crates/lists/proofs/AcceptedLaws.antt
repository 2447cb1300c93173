-- Laws of accepted sheets, one more after the others: a square's count, its deepest value, and the place that first gave it.
-- Assumes nothing.
use mathlib.Core.Path.{◌≡◌, refl, sym, ap, ◌∙◌}
use mathlib.Core.Bool.{Bool, true, false}
use mathlib.Core.List.{List, [], ◌∷◌, ◌++◌}
use Prim.Native.Nat.{ℕ, suc, ◌+◌, ◌≤◌, ◌<◌, max}
use native.Mathlib.Nat.{not-suc-le-zero}
use native.Mathlib.Omega.{arith}
use lib.Dec.{eqb, leb, ltb}
use lib.ListN.{length}
use borrow.Author.Tests.{lt-ltb, le-ltb, eq-eqb, ne_eqb, eqb-false}
use Rattle.reckon.specs.Tests.{pick}
use Rattle.reckon.proofs.TestLaws.{pick_true, pick_false}
use Rattle.text.proofs.ReadingLaws.{by_test, by_lt}
use Rattle.lists.specs.Drowned.{Accepted, peak_in, drowned, deepest_of, first_with, first_gave}

module _ (i : ℕ) where
  pub drowned_more :
      (wet : ℕ) (xs : List Accepted) (s : Accepted) →
      drowned i wet (xs ++ (s ∷ [])) ≡ pick (leb wet (peak_in i s)) (drowned i wet xs + 1) (drowned i wet xs)
  unfolding drowned pick
  drowned_more wet [] s = refl
  drowned_more wet (x ∷ xs) s =
      ap (λ (n : ℕ). pick (leb wet (peak_in i x)) (suc n) n) (drowned_more wet xs s)
      ∙ swap (leb wet (peak_in i x)) (leb wet (peak_in i s)) (drowned i wet xs)
    where
      swap : (a b : Bool) (n : ℕ) → pick a (suc (pick b (n + 1) n)) (pick b (n + 1) n) ≡ pick b (pick a (suc n) n + 1) (pick a (suc n) n)
      swap true true n = omega arith
      swap true false n = refl
      swap false true n = refl
      swap false false n = refl

  pub drowned_few : (wet : ℕ) (xs : List Accepted) → drowned i wet xs ≤ length xs
  unfolding drowned
  drowned_few wet [] = omega arith
  drowned_few wet (x ∷ xs) =
      by_test (leb wet (peak_in i x)) (λ e. omega (arith, pick_true (suc (drowned i wet xs)) (drowned i wet xs) e, drowned_few wet xs))
      (λ e. omega (arith, pick_false (suc (drowned i wet xs)) (drowned i wet xs) e, drowned_few wet xs))

  pub deepest_more : (xs : List Accepted) (s : Accepted) → deepest_of i (xs ++ (s ∷ [])) ≡ max (deepest_of i xs) (peak_in i s)
  unfolding deepest_of
  deepest_more [] s = omega arith
  deepest_more (x ∷ xs) s = omega (arith, deepest_more xs s)

  -- none of them is so deep
  first_past : (depth : ℕ) (xs ys : List Accepted) → deepest_of i xs < depth → first_with i depth (xs ++ ys) ≡ first_with i depth ys
  unfolding first_with deepest_of
  first_past depth [] ys h = refl
  first_past depth (x ∷ xs) ys h =
      pick_false _ _ (ne_eqb (peak_in i x) depth (λ e. omega (arith, h, e))) ∙ first_past depth xs ys (omega arith)

  -- one of them is
  first_in :
      (depth : ℕ) (x : Accepted) (xs ys : List Accepted) → depth ≡ deepest_of i (x ∷ xs) →
      first_with i depth ((x ∷ xs) ++ ys) ≡ first_with i depth (x ∷ xs)
  unfolding first_with deepest_of
  first_in depth x [] ys e =
      let own = eq-eqb (peak_in i x) depth (omega (arith, e)) in
      pick_true _ _ own ∙ sym (pick_true _ _ own)
  first_in depth x (y ∷ zs) ys e =
      by_test (eqb (peak_in i x) depth) (λ t. pick_true _ _ t ∙ sym (pick_true _ _ t))
      (λ t. pick_false _ _ t ∙ (first_in depth y zs ys (later (eqb-false (peak_in i x) depth t)) ∙ sym (pick_false _ _ t)))
    where
      later : (peak_in i x ≡ depth → ⊥) → depth ≡ deepest_of i (y ∷ zs)
      later d = by_lt (peak_in i x) (deepest_of i (y ∷ zs)) (λ l. omega (arith, e, l)) (λ l. absurd (d (omega (arith, e, l))))

  -- "the sheet that first gave it": the earlier one where two are as deep
  pub first_more :
      (xs : List Accepted) (s : Accepted) → 0 < length xs →
      first_gave i (xs ++ (s ∷ [])) ≡ pick (ltb (deepest_of i xs) (peak_in i s)) s.place (first_gave i xs)
  unfolding first_with
  first_more [] s h = absurd (not-suc-le-zero h)
  first_more (x ∷ xs) s h =
      ap (λ (d : ℕ). first_with i d ((x ∷ xs) ++ (s ∷ []))) (deepest_more (x ∷ xs) s)
      ∙ by_lt D pk
      (λ l.
      ap (λ (d : ℕ). first_with i d ((x ∷ xs) ++ (s ∷ []))) (let e : max D pk ≡ pk = omega arith in e)
      ∙ (first_past pk (x ∷ xs) (s ∷ []) l ∙ (alone s ∙ sym (pick_true _ _ (lt-ltb D pk l)))))
      (λ l.
      ap (λ (d : ℕ). first_with i d ((x ∷ xs) ++ (s ∷ []))) (let e : max D pk ≡ D = omega arith in e)
      ∙ (first_in D x xs (s ∷ []) refl ∙ sym (pick_false _ _ (le-ltb D pk l))))
    where
      D : ℕ
      D = deepest_of i (x ∷ xs)

      pk : ℕ
      pk = peak_in i s

      alone : (z : Accepted) → first_with i (peak_in i z) (z ∷ []) ≡ z.place
      alone z = pick_true _ _ (eq-eqb (peak_in i z) (peak_in i z) refl)

  pub first_alone : (s : Accepted) → first_gave i (s ∷ []) ≡ s.place
  unfolding first_with deepest_of
  first_alone s = pick_true _ _ (eq-eqb (peak_in i s) (max (peak_in i s) 0) (omega arith))
