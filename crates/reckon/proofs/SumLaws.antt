-- Laws of sums over places: of sums, swapped, of one place alone, and moved along a pairing of places.
-- Assumes nothing.
use mathlib.Core.Path.{◌≡◌, refl, sym, ap, ◌∙◌}
use mathlib.Core.Bool.{Bool}
use Prim.Native.Nat.{ℕ, zero, suc, ◌+◌, ◌≤◌, ◌<◌}
use native.Mathlib.Decide.{dec_lt, ℕ_discrete}
use native.Mathlib.Omega.{arith}
use lib.Dec.{eqb, ltb}
use borrow.Author.Tests.{eq-eqb, ne_eqb, lt-ltb, le-ltb}
use Rattle.reckon.specs.Tests.{pick}
use Rattle.reckon.specs.Lists.{sum_below}
use Rattle.reckon.proofs.TestLaws.{pick_true, pick_false}
use Rattle.reckon.proofs.ListLaws.{sum_ext, sum_zero}

pub sum-add : (n : ℕ) (f g : ℕ → ℕ) → sum_below n (λ i. f i + g i) ≡ sum_below n f + sum_below n g
unfolding sum_below
sum-add zero f g = refl
sum-add (suc n) f g = omega (arith, sum-add n f g)

pub sum_swap : (n m : ℕ) (h : ℕ → ℕ → ℕ) → sum_below n (λ i. sum_below m (h i)) ≡ sum_below m (λ j. sum_below n (λ i. h i j))
unfolding sum_below
sum_swap zero m h = sym (sum_zero m (λ j. 0) (λ j l. refl))
sum_swap (suc n) m h =
    ap (λ (x : ℕ). x + sum_below m (h n)) (sum_swap n m h) ∙ sym (sum-add m (λ j. sum_below n (λ i. h i j)) (h n))

-- a sum in which one place alone counts
pub sum_one : (n k : ℕ) (g : ℕ → ℕ) → sum_below n (λ j. pick (eqb j k) (g j) 0) ≡ pick (ltb k n) (g k) 0
unfolding sum_below
sum_one zero k g = sym (pick_false _ _ (le-ltb k 0 (omega arith)))
sum_one (suc n) k g = go (sum_one n k g) (dec_lt k n) (ℕ_discrete n k)
  where
    none : (n ≡ k → ⊥) → pick (eqb n k) (g n) 0 ≡ 0
    none h = pick_false _ _ (ne_eqb n k h)

    go :
        sum_below n (λ j. pick (eqb j k) (g j) 0) ≡ pick (ltb k n) (g k) 0 → Dec (k < n) → Dec (n ≡ k) →
        sum_below n (λ j. pick (eqb j k) (g j) 0) + pick (eqb n k) (g n) 0 ≡ pick (ltb k (suc n)) (g k) 0
    go ih (yes l) d =
        let before = ih ∙ pick_true _ _ (lt-ltb k n l) in
        let here = none (λ (e : n ≡ k). omega (arith, l, e)) in
        omega (arith, before, here, pick_true (g k) 0 (lt-ltb k (suc n) (omega arith)))
    go ih (no l) (yes e) =
        let before = ih ∙ pick_false _ _ (le-ltb k n (omega arith)) in
        let here = pick_true (g n) 0 (eq-eqb n k e) in
        omega (arith, before, here, ap g e, pick_true (g k) 0 (lt-ltb k (suc n) (omega (arith, e))))
    go ih (no l) (no e) =
        let far : (suc n) ≤ k = omega (arith, l, e) in
        let before = ih ∙ pick_false _ _ (le-ltb k n (omega arith)) in
        omega (arith, before, none e, pick_false (g k) 0 (le-ltb k (suc n) far))

-- b leads from places to places and c back: what is summed at b's places is summed at those that c leads back from
module _ (n : ℕ) (b c : ℕ → ℕ) (g : ℕ → ℕ)
    (back : (i : ℕ) → i < n → b i < n → c (b i) ≡ i) (forth : (j : ℕ) → j < n → c j < n → b (c j) ≡ j) where
  -- the same place, seen from either end
  same_place : (i j : ℕ) → i < n → j < n → eqb j (b i) ≡ eqb i (c j)
  same_place i j l m = go (ℕ_discrete j (b i)) (ℕ_discrete i (c j))
    where
      go : Dec (j ≡ b i) → Dec (i ≡ c j) → eqb j (b i) ≡ eqb i (c j)
      go (yes e) (yes d) = eq-eqb j (b i) e ∙ sym (eq-eqb i (c j) d)
      go (no e) (no d) = ne_eqb j (b i) e ∙ sym (ne_eqb i (c j) d)
      go (yes e) (no d) = absurd (d (sym (ap c e ∙ back i l (omega (arith, m, e)))))
      go (no e) (yes d) = absurd (e (sym (ap b d ∙ forth j m (omega (arith, l, d)))))

  pub sum_moved : sum_below n (λ i. pick (ltb (b i) n) (g (b i)) 0) ≡ sum_below n (λ j. pick (ltb (c j) n) (g j) 0)
  sum_moved =
      sum_ext n _ _ (λ i l. sym (sum_one n (b i) g))
      ∙ (sum_swap n n (λ i j. pick (eqb j (b i)) (g j) 0)
      ∙ sum_ext n _ _ (λ j m.
      sum_ext n _ _ (λ i l. ap (λ (t : Bool). pick t (g j) 0) (same_place i j l m)) ∙ sum_one n (c j) (λ _. g j)))
