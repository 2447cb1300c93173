-- Worlds and the engine's states say the same, row by row: a take-back and a step of a world are the engine's of its state.
-- Assumes nothing.
use mathlib.Core.Path.{◌≡◌, refl, sym, ap, ◌∙◌}
use mathlib.Core.Bool.{Bool, true, false, not}
use mathlib.Core.List.{List, [], ◌∷◌, ◌++◌}
use Prim.Native.Nat.{ℕ, zero, suc, ◌-◌}
use native.Mathlib.Omega.{arith}
use lib.Dec.{eqb}
use borrow.Author.Tests.{eq-eqb, ne_eqb}
use Rattle.reckon.specs.Tests.{pick, Row, ◌unless◌, refusal}
use Rattle.reckon.proofs.TestLaws.{pick_true, pick_false, refusal-first, refusal-second, refusal_here, refusal_later}
use Rattle.trials.specs.Ring.{slot_before}
use Rattle.trials.specs.Inner.Series.{Outcome, Engine, State, refused, done, and_then, looked, from_record, restored, stepped, step, take_back}
use Rattle.trials.proofs.StepLaws.{not_done}
use Rattle.ledger.specs.Runs.{Plan, World, Seen, seen_of}
use Rattle.ledger.specs.Record.{room_slots, newest_record, ring_of}
use Rattle.ledger.specs.After.{Moves, remains, new_depth, depths_fit, new_outflow, new_soaked, late_refusals, step_record, world_after}
use Rattle.ledger.specs.TakeBack.{restorable, world_before, back_refusals, back_number, taken_back, early_refusals}
use Rattle.ledger.specs.Inner.Engine.{bare, StepRule, outcome, made_number, engine, state_of}
use Rattle.ledger.proofs.EngineLaws.{restorable-bare, before-bare}

outcome_none : {A : Type 0} {n : ℕ} (a : A) → n ≡ 0 → outcome n a ≡ done a
unfolding outcome
outcome_none a e = rw e

outcome_some : {A : Type 0} {n : ℕ} (k : ℕ) (a : A) → n ≡ suc k → outcome n a ≡ refused (suc k)
unfolding outcome
outcome_some k a e = rw e

pub outcome_then : {A B : Type 0} (n : ℕ) (a : A) (f : A → B) → and_then (outcome n a) (λ x. done (f x)) ≡ outcome n (f a)
unfolding outcome and_then
outcome_then zero a f = refl
outcome_then (suc n) a f = refl

module _ (p : Plan) (w : World) where
  abbrev look : ℕ
  look = refusal (early_refusals p (ring_of p w) (seen_of w))

  -- ---- the take-back's number: the look's, then 10 and 11

  abbrev last_rows : List Row
  last_rows = 10 unless not (eqb w.run.kept 0) ∷ 11 unless restorable p w (newest_record p w) ∷ []

  number_look : {n : ℕ} → look ≡ suc n → back_number p w ≡ suc n
  unfolding back_number back_refusals early_refusals
  number_look {n} e = refusal-first (early_refusals p (ring_of p w) (seen_of w)) last_rows tt (λ z. let y : suc n ≡ 0 = sym e ∙ z in omega arith) ∙ e

  number_last : look ≡ 0 → back_number p w ≡ refusal last_rows
  unfolding back_number back_refusals early_refusals
  number_last e = refusal-second (early_refusals p (ring_of p w) (seen_of w)) last_rows tt e

  number_none : look ≡ 0 → w.run.kept ≡ 0 → back_number p w ≡ 10
  number_none e k = number_last e ∙ refusal_here 10 _ (ap not (eq-eqb w.run.kept 0 k))

  number_record : look ≡ 0 → {left : ℕ} → w.run.kept ≡ suc left → back_number p w ≡ refusal (11 unless restorable p w (newest_record p w) ∷ [])
  number_record e k = number_last e ∙ refusal_later 10 _ (ap not (ne_eqb w.run.kept 0 (λ z. omega arith)))

  -- ---- the world taken back

  made_back : back_number p w ≡ 0 → taken_back p w ≡ world_before p w (newest_record p w)
  unfolding taken_back
  made_back e = pick_true _ _ (eq-eqb (back_number p w) 0 e)

  -- a refused take-back gives the world back
  pub refused_stays : (back_number p w ≡ 0 → ⊥) → taken_back p w ≡ w
  unfolding taken_back
  refused_stays d = pick_false _ _ (ne_eqb (back_number p w) 0 d)

  module _ {Given : Type 0} (rule : StepRule Given) where
    abbrev E : Engine
    E = engine p rule

    abbrev s : State E
    s = state_of p rule w

    abbrev K : ℕ
    K = room_slots p w.records

    abbrev rec : List ℕ
    rec = newest_record p w

    state_before : {left : ℕ} → w.run.kept ≡ suc left →
        restored E K s left (seen_of (world_before p (bare (seen_of w)) rec)) ≡ state_of p rule (world_before p w rec)
    unfolding world_before
    state_before {left} k = λ j. record { seen = before-bare p w rec j; room = w.records; kept = one_less_lem j; newest = slot_before K w.run.newest }
      where
        one_less_lem : left ≡ w.run.kept - 1
        one_less_lem = omega arith

    from-record : look ≡ 0 → {left : ℕ} → w.run.kept ≡ suc left →
        from_record E K s (suc left) ≡ outcome (back_number p w) (state_of p rule (taken_back p w))
    unfolding newest_record and_then refusal pick
    from-record e {left} k = go (restorable p w rec) refl
      where
        before : Seen
        before = seen_of (world_before p (bare (seen_of w)) rec)

        unmade : {b : Bool} → restorable p w rec ≡ b →
            from_record E K s (suc left) ≡ and_then (pick b (done before) (refused 11)) (λ v. done (restored E K s left v))
        unmade r =
            ap (λ (b : Bool). and_then (pick b (done before) (refused 11)) (λ v. done (restored E K s left v))) (restorable-bare p w rec ∙ r)

        go : (b : Bool) → restorable p w rec ≡ b → from_record E K s (suc left) ≡ outcome (back_number p w) (state_of p rule (taken_back p w))
        go true r =
            let none : back_number p w ≡ 0 = number_record e k ∙ refusal_later 11 [] r in
            unmade r ∙ (ap done (state_before k ∙ ap (state_of p rule) (sym (made_back none))) ∙ sym (outcome_none _ none))
        go false r = unmade r ∙ sym (outcome_some 10 _ (number_record e k ∙ refusal_here 11 [] r))

    looked_on : (n : ℕ) → look ≡ n → looked E n (from_record E K s w.run.kept) ≡ outcome (back_number p w) (state_of p rule (taken_back p w))
    looked_on zero e = kept w.run.kept refl
      where
        kept : (k : ℕ) → w.run.kept ≡ k → from_record E K s k ≡ outcome (back_number p w) (state_of p rule (taken_back p w))
        kept zero k = sym (outcome_some 9 _ (number_none e k))
        kept (suc left) k = from-record e k
    looked_on (suc n) e = sym (outcome_some n _ (number_look e))

    -- the take-back of the state is that of the world
    pub back_bridge : take_back (engine p rule) (state_of p rule w) ≡ outcome (back_number p w) (state_of p rule (taken_back p w))
    unfolding take_back
    back_bridge = looked_on look refl

    -- a refused take-back gives the number of the first row that applies, and the world as it was
    pub back_refused : {n : ℕ} → take_back (engine p rule) (state_of p rule w) ≡ refused n → (back_number p w ≡ n) × (taken_back p w ≡ w)
    back_refused {n} e = go (back_number p w) refl
      where
        go : (k : ℕ) → back_number p w ≡ k → (back_number p w ≡ n) × (taken_back p w ≡ w)
        go zero z = absurd (not_done (sym e ∙ (back_bridge ∙ outcome_none _ z)))
        go (suc k) z =
            let same : ◌≡◌ {A = Outcome (State E)} (refused n) (refused (suc k)) = sym e ∙ (back_bridge ∙ outcome_some k _ z) in
            (z ∙ cc, refused_stays (λ y. let no_number : suc k ≡ 0 = sym z ∙ y in omega arith))

    -- ---- the step

    -- the step of the state is that of the world
    pub step_bridge : (g : Given) →
        step (engine p rule) g (state_of p rule w)
        ≡ outcome (refusal (rule.checks (ring_of p w) g (seen_of w) ++ late_refusals p (rule.moves g (seen_of w)) w))
        (state_of p rule (world_after p (rule.moves g (seen_of w)) w))
    unfolding step world_after step_record late_refusals depths_fit new_depth remains new_outflow new_soaked
    step_bridge g =
        let m : Moves = rule.moves g (seen_of w) in
        outcome_then (made_number p rule (ring_of p w) g (seen_of w)) (seen_of (world_after p m (bare (seen_of w))), step_record p m (bare (seen_of w))) (stepped E K s)
