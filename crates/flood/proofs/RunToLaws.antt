-- Laws of the run to an end: a valid world stays valid after a step, each step lasts at least 1 ms, so that as many steps as ms are left
-- are enough, and a run is that many public steps.
-- Assumes nothing.
use mathlib.Core.Path.{◌≡◌, refl, sym, ap, ap₂, ◌∙◌}
use mathlib.Core.Bool.{true}
use Prim.Native.Nat.{ℕ, zero, suc, ◌+◌, ◌-◌, ◌≤◌, ◌<◌}
use native.Mathlib.Numerals.{add-one}
use native.Mathlib.Decide.{dec_lt}
use native.Mathlib.Omega.{arith}
use lib.ListN.{length}
use borrow.Author.Tests.{eq-eqb, ne_eqb, lt-ltb, le-ltb}
use Rattle.reckon.specs.Tests.{refusal}
use Rattle.reckon.proofs.TestLaws.{pick_true, pick_false, refusal_both}
use Rattle.trials.specs.Ring.{slots_in, slot_after}
use Rattle.trials.proofs.RingLaws.{Ring, fine_ring, ring-fine, ring_after}
use Rattle.trials.proofs.RoomLaws.{length_stored}
use Rattle.ledger.specs.Runs.{Plan, World, seen_of}
use Rattle.ledger.specs.Record.{record_size, room_slots, ring_of}
use Rattle.ledger.specs.After.{late_refusals, step_record, world_after}
use Rattle.ledger.proofs.ReadBack.{step_long}
use Rattle.ledger.proofs.EngineLaws.{look_seen, valid_after}
use Rattle.checks.specs.Given.{Given}
use Rattle.moves.specs.Moves.{step_duration, step_length, step_moves}
use Rattle.checks.specs.Refusals.{step_checks, run_checks}
use Rattle.flood.specs.Step.{step_number, stepped}
use Rattle.flood.specs.Inner.Rule.{flood_rule}
use Rattle.flood.specs.Run.{Ended, ended, go_on, run_from, run_to}
use Rattle.flood.specs.Step.{MakesStep, Passes}
use Rattle.checks.proofs.CheckLaws.{ready, ring_is, checks_named, checks_after}
use Rattle.moves.proofs.MoveLaws.{step_lasts_from}
use Rattle.flood.proofs.RuleLaws.{flood_owed}

-- rows 1 to 6 pass
abbrev pub Valid : Plan → Given → World → Type 0
Valid p g w = refusal (step_checks p g (ring_of p w) (seen_of w)) ≡ 0

-- ---- one step

module _ (p : Plan) (g : Given) (w : World) where
  pub made_is : step_number p g w ≡ 0 → stepped p g w ≡ world_after p (step_moves p g (seen_of w)) w
  unfolding stepped
  made_is e = pick_true _ _ (eq-eqb _ _ e)

  pub refused_is : (step_number p g w ≡ 0 → ⊥) → stepped p g w ≡ w
  unfolding stepped
  refused_is d = pick_false _ _ (ne_eqb _ _ d)

  pub checks_passed : step_number p g w ≡ 0 → Valid p g w
  unfolding step_number
  checks_passed e = (refusal_both (step_checks p g (ring_of p w) (seen_of w)) _ (checks_named p g (ring_of p w) (seen_of w)) e).0

  late_passed : step_number p g w ≡ 0 → refusal (late_refusals p (step_moves p g (seen_of w)) w) ≡ 0
  unfolding step_number
  late_passed e = (refusal_both (step_checks p g (ring_of p w) (seen_of w)) _ (checks_named p g (ring_of p w) (seen_of w)) e).1

  module _ (ok : Valid p g w) (made : step_number p g w ≡ 0) where
    abbrev after : World
    after = world_after p (step_moves p g (seen_of w)) w

    old_ring : Ring (room_slots p w.records) w.run.kept w.run.newest
    old_ring = fine_ring _ _ _ (ring_is p g (ring_of p w) (seen_of w) ok)

    room_same : length after.records ≡ length w.records
    unfolding world_after room_slots
    room_same =
        length_stored (record_size p) (omega arith) w.records (slot_after (room_slots p w.records) w.run.newest)
        (step_record p (step_moves p g (seen_of w)) w) (step_long p (step_moves p g (seen_of w)) w) (ring_after old_ring).newest_below

    slots_same : room_slots p after.records ≡ room_slots p w.records
    unfolding room_slots
    slots_same = ap (slots_in (record_size p)) room_same

    new_ring : ring_of p after ≡ true
    unfolding world_after
    new_ring = rw slots_same (ring-fine _ _ _ (ring_after old_ring))

    -- a valid world stays valid
    pub still_valid : Valid p g (stepped p g w)
    still_valid =
        let seen = look_seen p true (seen_of after) (valid_after p (flood_rule p) (flood_owed p) (ring_of p w) g w ok (late_passed made)) in
        rw (made_is made)
        (checks_after p g (ring_of p w) (ring_of p after) (seen_of w) (seen_of after) ok new_ring
        (record {
          depths_long = seen.depths_long;
          lasts_long = seen.lasts_long;
          depths_to = seen.depth_to;
          lasts_to = seen.last_to;
          clock_to = seen.clock_to;
          length_from = seen.length_from;
          length_to = seen.length_to;
          outflow_to = seen.outflow_to;
          soaked_to = seen.soaked_to;
        }))

    -- the record room stays as long as it was
    pub room-kept : length (stepped p g w).records ≡ length w.records
    room-kept = ap (λ (x : World). length x.records) (made_is made) ∙ room_same

    -- the clock goes on
    pub clock_after : (stepped p g w).run.clock ≡ w.run.clock + step_duration p g (seen_of w)
    unfolding world_after
    clock_after = ap (λ (x : World). x.run.clock) (made_is made)

    -- and the run holds the length
    pub length-after : (stepped p g w).run.length ≡ step_length p g (seen_of w)
    unfolding world_after
    length-after = ap (λ (x : World). x.run.length) (made_is made)

    pub clock_on : w.run.clock < (stepped p g w).run.clock
    clock_on = omega (arith, clock_after, step_lasts_from p g (seen_of w) (ready p g (ring_of p w) (seen_of w) ok))

  -- the checks pass after each step that is made
  pub passes_after : step_number p g w ≡ 0 → Passes p g (stepped p g w)
  passes_after made = record { checked = still_valid (checks_passed made) made }

-- ---- the run

module _ (p : Plan) (g : Given) (end : ℕ) where
  goes_on : {n : ℕ} (made : ℕ) (w : World) (rest : Ended) → n ≡ 0 → go_on n made w rest ≡ rest
  unfolding go_on
  goes_on made w rest e = rw e

  pub stops : {n : ℕ} (made : ℕ) (w : World) (rest : Ended) → (n ≡ 0 → ⊥) → go_on n made w rest ≡ ended n made w
  unfolding go_on
  stops {n = zero} made w rest d = absurd (d refl)
  stops {n = suc n} made w rest d = refl

  abbrev onward : ℕ → ℕ → World → Ended
  onward most made w = go_on (step_number p g w) made w (run_from p g end most (suc made) (stepped p g w))

  run_over : (most made : ℕ) (w : World) → end ≤ w.run.clock → run_from p g end most made w ≡ ended 0 made w
  unfolding run_from
  run_over zero made w h = refl
  run_over (suc most) made w h = pick_false _ _ (le-ltb _ _ h)

  run_under : (most made : ℕ) (w : World) → w.run.clock < end → run_from p g end (suc most) made w ≡ onward most made w
  unfolding run_from
  run_under most made w h = pick_true _ _ (lt-ltb _ _ h)

  -- more steps than ms left do not matter
  pub enough :
      (a b made : ℕ) (w : World) → Valid p g w → end - w.run.clock ≤ a → end - w.run.clock ≤ b →
      run_from p g end a made w ≡ run_from p g end b made w
  enough zero b made w ok h k = run_over zero made w (omega arith) ∙ sym (run_over b made w (omega arith))
  enough (suc a) zero made w ok h k = run_over (suc a) made w (omega arith) ∙ sym (run_over zero made w (omega arith))
  enough (suc a) (suc b) made w ok h k = go (dec_lt w.run.clock end) (step_number p g w) refl (enough a b (suc made) (stepped p g w))
    where
      go :
          Dec (w.run.clock < end) → (n : ℕ) → step_number p g w ≡ n →
          (Valid p g (stepped p g w) → end - (stepped p g w).run.clock ≤ a → end - (stepped p g w).run.clock ≤ b →
          run_from p g end a (suc made) (stepped p g w) ≡ run_from p g end b (suc made) (stepped p g w)) →
          run_from p g end (suc a) made w ≡ run_from p g end (suc b) made w
      go (no l) n e ih = run_over (suc a) made w (omega arith) ∙ sym (run_over (suc b) made w (omega arith))
      go (yes l) zero e ih =
          let t = clock_on p g w ok e in
          run_under a made w l
          ∙ (ap (λ (x : Ended). go_on (step_number p g w) made w x) (ih (still_valid p g w ok e) (omega arith) (omega arith))
          ∙ sym (run_under b made w l))
      go (yes l) (suc n) e ih =
          let d : step_number p g w ≡ 0 → ⊥ = λ z. omega (arith, sym e ∙ z) in
          run_under a made w l
          ∙ (stops made w _ d ∙ (sym (stops made w _ d) ∙ sym (run_under b made w l)))

  -- the run from a valid world, with as many steps as it can need
  abbrev pub whole : ℕ → World → Ended
  whole made w = run_from p g end (end - w.run.clock) made w

  -- "makes steps while clock < end": its unfolding, with no bound in sight
  module _ (made : ℕ) (w : World) where
    pub run_ends : end ≤ w.run.clock → whole made w ≡ ended 0 made w
    run_ends h = run_over (end - w.run.clock) made w h

    module _ (ok : Valid p g w) (l : w.run.clock < end) where
      left : end - w.run.clock ≡ suc (end - w.run.clock - 1)
      left = omega arith

      opened : whole made w ≡ onward (end - w.run.clock - 1) made w
      opened = ap (λ (n : ℕ). run_from p g end n made w) left ∙ run_under (end - w.run.clock - 1) made w l

      pub run-refused : (step_number p g w ≡ 0 → ⊥) → whole made w ≡ ended (step_number p g w) made w
      run-refused d = opened ∙ stops made w _ d

      pub run_steps : step_number p g w ≡ 0 → whole made w ≡ whole (suc made) (stepped p g w)
      run_steps e =
          let t = clock_on p g w ok e in
          opened
          ∙ (goes_on made w _ e
          ∙ enough (end - w.run.clock - 1) (end - (stepped p g w).run.clock) (suc made) (stepped p g w) (still_valid p g w ok e) (omega arith) (omega arith))

  -- ---- a loop of steps: where it has come to, the run from there is the whole run

  pub record Running (start now : World) (steps : ℕ) : Type 0 where
    pub valid : Valid p g now
    pub same : whole 0 start ≡ whole steps now
    pub few : steps ≤ now.run.clock

  pub running_starts : (w : World) → Valid p g w → Running w w 0
  running_starts w ok = record { valid = ok; same = refl; few = omega arith }

  module _ {start now after : World} {steps n : ℕ} (r : Running start now steps) (l : now.run.clock < end) (m : MakesStep p g now n after) where
    pub running_on : n ≡ 0 → Running start after (steps + 1)
    running_on z =
        let made : step_number p g now ≡ 0 = sym m.number ∙ z in
        rw (m.world_is, add-one steps)
        (record {
          valid = still_valid p g now r.valid made;
          same = r.same ∙ run_steps steps now r.valid l made;
          few = omega (arith, clock_on p g now r.valid made, r.few);
        })

    pub running_further : n ≡ 0 → now.run.clock < after.run.clock
    running_further z = rw m.world_is (clock_on p g now r.valid (sym m.number ∙ z))

    pub running_refused : (n ≡ 0 → ⊥) → ended n steps after ≡ whole 0 start
    running_refused d =
        let q : step_number p g now ≡ 0 → ⊥ = λ z. d (m.number ∙ z) in
        ap₂ (λ (k : ℕ) (x : World). ended k steps x) m.number (m.world_is ∙ refused_is p g now q)
        ∙ sym (r.same ∙ run-refused steps now r.valid l q)

  pub running_ends : {start now : World} {steps : ℕ} → Running start now steps → end ≤ now.run.clock → ended 0 steps now ≡ whole 0 start
  running_ends {start} {now} {steps} r h = sym (r.same ∙ run_ends steps now h)

-- ---- the public run

module _ (p : Plan) (g : Given) (end : ℕ) (w : World) where
  -- rows 1 to 6 refuse
  pub run_checked : {n : ℕ} → n ≡ refusal (run_checks p g end w) → (n ≡ 0 → ⊥) → ended n 0 w ≡ run_to p g end w
  unfolding run_to
  run_checked {n} e d = sym (ap (λ (k : ℕ). go_on k 0 w (whole p g end 0 w)) (sym e) ∙ stops p g end 0 w _ d)

  -- they pass
  pub run_passed : {n : ℕ} {out : Ended} → n ≡ refusal (run_checks p g end w) → n ≡ 0 → out ≡ whole p g end 0 w → out ≡ run_to p g end w
  unfolding run_to
  run_passed e z o = o ∙ sym (goes_on p g end 0 w _ (sym e ∙ z))
