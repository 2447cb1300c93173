-- A run is followed step by step: it stops at its end, or before the step that is refused.
-- Assumes nothing.
use mathlib.Core.Path.{◌≡◌, refl, sym, ap, ◌∙◌}
use mathlib.Core.Bool.{Bool, true, false}
use mathlib.Core.List.{[], ◌∷◌}
use Prim.Native.Nat.{ℕ, zero, suc, ◌-◌, ◌≤◌, ◌<◌}
use native.Mathlib.Decide.{dec_lt}
use native.Mathlib.Omega.{arith}
use Rattle.reckon.specs.Tests.{pick, ◌unless◌, refusal}
use Rattle.reckon.proofs.TestLaws.{refusal-second}
use Rattle.ledger.specs.Runs.{Plan, World, seen_of}
use Rattle.ledger.specs.After.{late_refusals}
use Rattle.ledger.specs.Record.{ring_of}
use Rattle.moves.specs.Moves.{step_moves}
use Rattle.exports.specs.Refusals.{last_check}
use Rattle.checks.specs.Given.{Given}
use Rattle.checks.specs.Refusals.{step_checks, run_checks}
use Rattle.flood.specs.Step.{step_number, stepped}
use Rattle.flood.specs.Run.{run_to}
use Rattle.checks.proofs.CheckLaws.{checks_named, run_checks_step}
use Rattle.flood.proofs.RunToLaws.{Valid, still_valid, clock_on, whole, run_ends, run-refused, run_steps, run_passed}
use Rattle.flood.specs.Run.{steps_on}
use Rattle.demands.specs.Demand1.{StopsBefore}

-- the number of rows 7, 8, 9 and 15
abbrev late : Bool → Bool → Bool → Bool → ℕ
late a b c e = refusal (7 unless a ∷ 8 unless b ∷ 9 unless c ∷ 15 unless e ∷ [])

late_row : (a b c e : Bool) → (late a b c e ≡ 0 → ⊥) → last_check < late a b c e
unfolding refusal pick
late_row false b c e d = omega arith
late_row true false c e d = omega arith
late_row true true false e d = omega arith
late_row true true true false d = omega arith
late_row true true true true d = absurd (d refl)

module _ (p : Plan) (g : Given) (end : ℕ) (w : World) where
  -- a step whose checks pass is refused by none of their numbers
  late-number : (now : World) → Valid p g now → (step_number p g now ≡ 0 → ⊥) → last_check < step_number p g now
  unfolding step_number late_refusals
  late-number now v d =
      let e = refusal-second (step_checks p g (ring_of p now) (seen_of now)) (late_refusals p (step_moves p g (seen_of now)) now) (checks_named p g (ring_of p now) (seen_of now)) v in
      rw e (late_row _ _ _ _ (λ z. d (e ∙ z)))

  -- where a run has come to after some steps, all made and each before the end
  record Before (made : ℕ) (now : World) : Type 0 where
    now_is : now ≡ steps_on p g made w
    valid : Valid p g now
    each_made : (k : ℕ) → k < made → step_number p g (steps_on p g k w) ≡ 0
    each_before : (k : ℕ) → k < made → (steps_on p g k w).run.clock < end

  -- one step more
  on : {made : ℕ} {now : World} → Before made now → now.run.clock < end → step_number p g now ≡ 0 → Before (suc made) (stepped p g now)
  unfolding steps_on
  on {made} {now} b l z =
      record {
        now_is = ap (stepped p g) b.now_is;
        valid = still_valid p g now b.valid z;
        each_made = λ k h. up_to (λ k. step_number p g (steps_on p g k w) ≡ 0) b.each_made (rw (← b.now_is) z) k h;
        each_before = λ k h. up_to (λ k. (steps_on p g k w).run.clock < end) b.each_before (rw (← b.now_is) l) k h;
      }
    where
      up_to : (P : ℕ → Type 0) → ((k : ℕ) → k < made → P k) → P made → (k : ℕ) → k < suc made → P k
      up_to P f x k h = go (dec_lt k made)
        where
          go : Dec (k < made) → P k
          go (yes l) = f k l
          go (no l) = let e : made ≡ k = omega arith in rw (← e) x

  module _ {made : ℕ} {now : World} (b : Before made now) where
    at-end : end ≤ now.run.clock → StopsBefore p g end w (whole p g end made now)
    at-end h =
        rw (run_ends p g end made now h)
        (record {
          world_is = b.now_is;
          each_made = b.each_made;
          each_before = b.each_before;
          comes-to = λ z. h;
          stops = λ d. absurd (d refl);
          late = λ d. absurd (d refl);
        })

    at-refusal : now.run.clock < end → (step_number p g now ≡ 0 → ⊥) → StopsBefore p g end w (whole p g end made now)
    at-refusal l d =
        rw (run-refused p g end made now b.valid l d)
        (record {
          world_is = b.now_is;
          each_made = b.each_made;
          each_before = b.each_before;
          comes-to = λ z. absurd (d z);
          stops = λ d. (l, refl);
          late = λ d. late-number now b.valid d;
        })

  -- what the rest of a run comes to: each step takes at least 1 ms
  comes : (left made : ℕ) (now : World) → Before made now → end - now.run.clock ≤ left → StopsBefore p g end w (whole p g end made now)
  comes zero made now b h = at-end b (omega arith)
  comes (suc left) made now b h = go (dec_lt now.run.clock end) (step_number p g now) refl (comes left (suc made) (stepped p g now))
    where
      go : Dec (now.run.clock < end) → (n : ℕ) → step_number p g now ≡ n →
          (Before (suc made) (stepped p g now) → end - (stepped p g now).run.clock ≤ left → StopsBefore p g end w (whole p g end (suc made) (stepped p g now))) →
          StopsBefore p g end w (whole p g end made now)
      go (no l) n z ih = at-end b (omega arith)
      go (yes l) zero z ih =
          let t = clock_on p g now b.valid z in
          rw (run_steps p g end made now b.valid l z) (ih (on b l z) (omega arith))
      go (yes l) (suc n) z ih = at-refusal b l (λ y. omega (arith, sym z ∙ y))

  pub run_stops : refusal (run_checks p g end w) ≡ 0 → StopsBefore p g end w (run_to p g end w)
  unfolding steps_on
  run_stops e =
      rw (← run_passed p g end w {out = whole p g end 0 w} refl e refl)
      (comes (end - w.run.clock) 0 w
      (record { now_is = refl; valid = run_checks_step p g end w e; each_made = λ k h. absurd (omega arith); each_before = λ k h. absurd (omega arith) })
      (omega arith))
