-- A run counts as the steps it made: each turn of a run is a step of the series with the same inputs, and it stops where that one would.
-- Assumes nothing.
use mathlib.Core.Path.{◌≡◌, refl, sym, ap, ◌∙◌, subst}
use mathlib.Core.Bool.{Bool, true, false}
use mathlib.Core.List.{List, ◌∷◌, ◌++◌}
use Prim.Native.Nat.{ℕ, zero, suc, ◌+◌}
use native.Mathlib.Omega.{arith}
use lib.ListN.{replicate}
use Rattle.reckon.specs.Tests.{pick}
use Rattle.trials.specs.Inner.Series.{Outcome, refused, done, Engine, State, step, Ran, ran_on, run_on, run, running, Trail, after_step, repeat, called}

replicate_snoc : {A : Type 0} (n : ℕ) (a : A) (l : List A) → replicate n a ++ (a ∷ l) ≡ a ∷ (replicate n a ++ l)
replicate_snoc zero a l = refl
replicate_snoc (suc n) a l = ap (λ (r : List _). a ∷ r) (replicate_snoc n a l)

module _ (E : Engine) (i : E.Inputs) (more : E.Seen → Bool) where
  -- after the run the series is in the run's own state, and each of the steps stands
  record Counts (x : Trail E) (r : Ran E) (so_far : ℕ) : Type 0 where
    made : ℕ
    steps_are : r.steps ≡ made + so_far
    state_is : (repeat E made i x).at ≡ r.state
    stand : (repeat E made i x).standing ≡ replicate made i ++ x.standing

  counts : (n : ℕ) (x : Trail E) (so_far : ℕ) → Counts x (run_on E i more n x.at so_far) so_far
  unfolding run_on repeat pick
  counts zero x so_far = record { made = 0; steps_are = omega arith; state_is = refl; stand = refl }
  counts (suc n) x so_far = go (more x.at.seen) (step E i x.at) refl (λ y. counts n y (suc so_far))
    where
      go : (b : Bool) (a : Outcome (State E)) → step E i x.at ≡ a → ((y : Trail E) → Counts y (run_on E i more n y.at (suc so_far)) (suc so_far))
          → Counts x (pick b (ran_on E a x.at so_far (λ t. run_on E i more n t (suc so_far))) (record { state = x.at; steps = so_far; number = 0 })) so_far
      go false a e h = record { made = 0; steps_are = omega arith; state_is = refl; stand = refl }
      go true (refused m) e h = record { made = 0; steps_are = omega arith; state_is = refl; stand = refl }
      go true (done t) e h =
          let c = h (after_step E i x (done t)) in
          record {
            made = suc c.made;
            steps_are = omega (arith, c.steps_are);
            state_is = subst (λ (a : Outcome (State E)). (repeat E c.made i (after_step E i x a)).at ≡ (run_on E i more n t (suc so_far)).state) (sym e) c.state_is;
            stand = subst (λ (a : Outcome (State E)). (repeat E c.made i (after_step E i x a)).standing ≡ i ∷ (replicate c.made i ++ x.standing)) (sym e)
                (c.stand ∙ replicate_snoc c.made i x.standing);
          }

  module _ (n : ℕ) (x : Trail E) where
    steps_made : (run E i more n x.at).steps ≡ (counts n x 0).made
    steps_made = omega (arith, (counts n x 0).steps_are)

    pub run_at : (called E (running i more n) x).at ≡ (run E i more n x.at).state
    run_at = rw steps_made (counts n x 0).state_is

    pub run_stands : (called E (running i more n) x).standing ≡ replicate (run E i more n x.at).steps i ++ x.standing
    run_stands = rw steps_made (counts n x 0).stand
