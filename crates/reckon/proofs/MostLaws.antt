-- Laws of the greatest of a row of numbers: none is greater, and the first that is as great is the first.
-- Assumes nothing.
use mathlib.Core.Path.{◌≡◌, refl, sym, ap, subst, ◌∙◌}
use mathlib.Core.Bool.{Bool, true, false}
use Prim.Native.Nat.{ℕ, zero, suc, ◌≤◌, ◌<◌, max}
use native.Mathlib.Decide.{ℕ_discrete, dec_lt}
use native.Mathlib.Omega.{arith}
use lib.Dec.{ltb}
use borrow.Author.Tests.{lt-ltb, le-ltb, ltb-true, ltb-false}
use Rattle.reckon.specs.Tests.{pick}
use Rattle.reckon.specs.Most.{most_over, first_most, MostIs}
use Rattle.reckon.proofs.TestLaws.{pick_true, pick_false}

-- the greater of two by a test
pub pick-max : (a b : ℕ) → pick (ltb a b) b a ≡ max a b
pick-max a b = go (dec_lt a b)
  where
    go : Dec (a < b) → pick (ltb a b) b a ≡ max a b
    go (yes l) = pick_true _ _ (lt-ltb a b l) ∙ omega arith
    go (no l) = pick_false _ _ (le-ltb a b (omega arith)) ∙ omega arith

pub most_is : (n : ℕ) (f : ℕ → ℕ) → MostIs n f
unfolding most_over first_most
most_is zero f =
    record {
      none_greater = λ k h. subst (λ (j : ℕ). f j ≤ f zero) (let e : 0 ≡ k = omega arith in e) (omega arith);
      among = omega arith;
      reached = refl;
      first = λ k h. absurd (let z : k < 0 = h in omega arith);
    }
most_is (suc n) f = go (most_is n f) (ltb (most_over n f) (f (suc n))) refl
  where
    none : MostIs n f → (k : ℕ) → k ≤ suc n → Dec (k ≡ suc n) → f k ≤ max (most_over n f) (f (suc n))
    none before k h (yes e) = subst (λ (j : ℕ). f j ≤ max (most_over n f) (f (suc n))) (sym e) (omega arith)
    none before k h (no e) = omega (arith, before.none_greater k (omega arith))

    go : MostIs n f → (b : Bool) → ltb (most_over n f) (f (suc n)) ≡ b → MostIs (suc n) f
    go before true t =
        let l = ltb-true (most_over n f) (f (suc n)) t in
        let at : first_most (suc n) f ≡ suc n = pick_true _ _ t in
        record {
          none_greater = λ k h. none before k h (ℕ_discrete k (suc n));
          among = omega (arith, at);
          reached = ap f at ∙ omega (arith, l);
          first = λ k h. omega (arith, l, before.none_greater k (omega (arith, h, at)));
        }
    go before false t =
        let l = ltb-false (most_over n f) (f (suc n)) t in
        let at : first_most (suc n) f ≡ first_most n f = pick_false _ _ t in
        record {
          none_greater = λ k h. none before k h (ℕ_discrete k (suc n));
          among = omega (arith, at, before.among);
          reached = ap f at ∙ (before.reached ∙ omega (arith, l));
          first = λ k h. omega (arith, l, before.first k (omega (arith, h, at)));
        }
