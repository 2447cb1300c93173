-- A run is the steps it made, and each of them moves the ring on by one slot; a take-back moves it back.
-- Assumes nothing.
use mathlib.Core.Path.{◌≡◌, refl, sym, ap, ap₂, subst, ◌∙◌}
use mathlib.Core.List.{List}
use Prim.Native.Nat.{ℕ, zero, suc, ◌-◌, ◌≤◌, ◌<◌}
use native.Mathlib.Decide.{dec_lt, ℕ_discrete}
use native.Mathlib.Omega.{arith}
use borrow.Author.Tests.{eq-eqb}
use Rattle.reckon.specs.Tests.{refusal}
use Rattle.reckon.proofs.TestLaws.{pick_true}
use Rattle.trials.specs.Ring.{slot_after, slot_before, kept_after}
use Rattle.trials.proofs.RingLaws.{fine_ring, ring_after}
use Rattle.trials.proofs.RoomLaws.{slots_stored}
use Rattle.ledger.specs.Runs.{Plan, World, seen_of}
use Rattle.ledger.specs.Record.{record_size, room_slots, ring_of, newest_record}
use Rattle.ledger.specs.After.{step_record, world_after}
use Rattle.ledger.specs.TakeBack.{back_number, taken_back, world_before}
use Rattle.ledger.proofs.ReadBack.{step_long}
use Rattle.checks.specs.Given.{Given}
use Rattle.moves.specs.Moves.{step_moves}
use Rattle.checks.specs.Refusals.{run_checks}
use Rattle.flood.specs.Step.{step_number, stepped}
use Rattle.flood.specs.Run.{Ended, ended, run_to, steps_on}
use Rattle.checks.proofs.CheckLaws.{ring_is, run_checks_step}
use Rattle.flood.proofs.RunToLaws.{Valid, made_is, checks_passed, still_valid, clock_on, whole, run_ends, run-refused, run_steps, run_checked, run_passed}
use Rattle.hatches.specs.Inner.Rates.{newest_after, kept_steps}

-- ---- a run is the steps it made

pub record Made (p : Plan) (g : Given) (w : World) (e : Ended) : Type 0 where
  pub world_is : e.world ≡ steps_on p g e.steps w
  pub each_made : (k : ℕ) → k < e.steps → step_number p g (steps_on p g k w) ≡ 0

module _ (p : Plan) (g : Given) (end : ℕ) (w : World) where
  record Before (made : ℕ) (now : World) : Type 0 where
    now_is : now ≡ steps_on p g made w
    valid : Valid p g now
    each_made : (k : ℕ) → k < made → step_number p g (steps_on p g k w) ≡ 0

  on : {made : ℕ} {now : World} → Before made now → step_number p g now ≡ 0 → Before (suc made) (stepped p g now)
  unfolding steps_on
  on {made} {now} b z =
      record {
        now_is = ap (stepped p g) b.now_is;
        valid = still_valid p g now b.valid z;
        each_made = λ k h. up_to (λ k. step_number p g (steps_on p g k w) ≡ 0) b.each_made (rw (← b.now_is) z) k h;
      }
    where
      up_to : (P : ℕ → Type 0) → ((k : ℕ) → k < made → P k) → P made → (k : ℕ) → k < suc made → P k
      up_to P f x k h = go (dec_lt k made)
        where
          go : Dec (k < made) → P k
          go (yes l) = f k l
          go (no l) = let e : made ≡ k = omega arith in rw (← e) x

  stopped : {made : ℕ} {now : World} {n : ℕ} → Before made now → Made p g w (ended n made now)
  stopped b = record { world_is = b.now_is; each_made = b.each_made }

  comes : (left made : ℕ) (now : World) → Before made now → end - now.run.clock ≤ left → Made p g w (whole p g end made now)
  comes zero made now b h = rw (run_ends p g end made now (omega arith)) (stopped b)
  comes (suc left) made now b h = go (dec_lt now.run.clock end) (step_number p g now) refl (comes left (suc made) (stepped p g now))
    where
      go : Dec (now.run.clock < end) → (n : ℕ) → step_number p g now ≡ n →
          (Before (suc made) (stepped p g now) → end - (stepped p g now).run.clock ≤ left → Made p g w (whole p g end (suc made) (stepped p g now))) →
          Made p g w (whole p g end made now)
      go (no l) n z ih = rw (run_ends p g end made now (omega arith)) (stopped b)
      go (yes l) zero z ih =
          let t = clock_on p g now b.valid z in
          rw (run_steps p g end made now b.valid l z) (ih (on b z) (omega arith))
      go (yes l) (suc n) z ih = rw (run-refused p g end made now b.valid l (λ y. omega (arith, sym z ∙ y))) (stopped b)

  pub run_made : Made p g w (run_to p g end w)
  unfolding steps_on
  run_made = go (ℕ_discrete (refusal (run_checks p g end w)) 0)
    where
      go : Dec (refusal (run_checks p g end w) ≡ 0) → Made p g w (run_to p g end w)
      go (yes e) =
          rw (← run_passed p g end w {out = whole p g end 0 w} refl e refl)
          (comes (end - w.run.clock) 0 w
          (record { now_is = refl; valid = run_checks_step p g end w e; each_made = λ k h. absurd (omega arith) })
          (omega arith))
      go (no d) = rw (← run_checked p g end w refl d) (record { world_is = refl; each_made = λ k h. absurd (omega arith) })

-- ---- a step moves the ring on

pub record Moved (p : Plan) (w t : World) : Type 0 where
  pub newest_is : t.run.newest ≡ slot_after (room_slots p w.records) w.run.newest
  pub kept_is : t.run.kept ≡ kept_after (room_slots p w.records) w.run.kept
  pub slots_are : room_slots p t.records ≡ room_slots p w.records

module _ (p : Plan) (g : Given) (w : World) (z : step_number p g w ≡ 0) where
  after_moved : Moved p w (world_after p (step_moves p g (seen_of w)) w)
  unfolding world_after room_slots
  after_moved =
      record {
        newest_is = refl;
        kept_is = refl;
        slots_are =
            slots_stored (record_size p) (omega arith) w.records (slot_after (room_slots p w.records) w.run.newest)
            (step_record p (step_moves p g (seen_of w)) w) (step_long p (step_moves p g (seen_of w)) w)
            (ring_after (fine_ring _ _ _ (ring_is p g (ring_of p w) (seen_of w) (checks_passed p g w z)))).newest_below;
      }

  pub step_moved : Moved p w (stepped p g w)
  step_moved = subst (Moved p w) (sym (made_is p g w z)) after_moved

-- ---- and a run by as many slots as it made steps

newest_snoc : (K n newest : ℕ) → newest_after K (suc n) newest ≡ slot_after K (newest_after K n newest)
unfolding newest_after
newest_snoc K zero newest = refl
newest_snoc K (suc n) newest = newest_snoc K n (slot_after K newest)

kept_snoc : (K n kept : ℕ) → kept_steps K (suc n) kept ≡ kept_after K (kept_steps K n kept)
unfolding kept_steps
kept_snoc K zero kept = refl
kept_snoc K (suc n) kept = kept_snoc K n (kept_after K kept)

pub record Further (p : Plan) (n : ℕ) (w t : World) : Type 0 where
  pub newest_is : t.run.newest ≡ newest_after (room_slots p w.records) n w.run.newest
  pub kept_is : t.run.kept ≡ kept_steps (room_slots p w.records) n w.run.kept
  pub slots_are : room_slots p t.records ≡ room_slots p w.records

pub steps_further : (p : Plan) (g : Given) (w : World) (n : ℕ) → ((k : ℕ) → k < n → step_number p g (steps_on p g k w) ≡ 0) → Further p n w (steps_on p g n w)
unfolding steps_on newest_after kept_steps
steps_further p g w zero made = record { newest_is = refl; kept_is = refl; slots_are = refl }
steps_further p g w (suc n) made =
    let f = steps_further p g w n (λ k h. made k (omega arith)) in
    let m = step_moved p g (steps_on p g n w) (made n (omega arith)) in
    record {
      newest_is =
          m.newest_is ∙ (ap₂ (λ (k j : ℕ). slot_after k j) f.slots_are f.newest_is ∙ sym (newest_snoc (room_slots p w.records) n w.run.newest));
      kept_is = m.kept_is ∙ (ap₂ (λ (k j : ℕ). kept_after k j) f.slots_are f.kept_is ∙ sym (kept_snoc (room_slots p w.records) n w.run.kept));
      slots_are = m.slots_are ∙ f.slots_are;
    }

-- ---- a take-back moves it back

pub record Returned (p : Plan) (w t : World) : Type 0 where
  pub newest_is : t.run.newest ≡ slot_before (room_slots p w.records) w.run.newest
  pub kept_is : t.run.kept ≡ w.run.kept - 1
  pub slots_are : room_slots p t.records ≡ room_slots p w.records

restored : (p : Plan) (w : World) (rec : List ℕ) → Returned p w (world_before p w rec)
unfolding world_before
restored p w rec = record { newest_is = refl; kept_is = refl; slots_are = refl }

pub back_returned : (p : Plan) (w : World) → back_number p w ≡ 0 → Returned p w (taken_back p w)
unfolding taken_back
back_returned p w z = subst (Returned p w) (sym (pick_true _ _ (eq-eqb _ _ z))) (restored p w (newest_record p w))
