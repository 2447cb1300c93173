-- Laws of a line taken: what its calls give makes the evening after it.
-- Assumes nothing.
use mathlib.Core.Path.{◌≡◌, sym, ap, ap₂, ◌∙◌}
use mathlib.Core.Bool.{Bool, true, false}
use mathlib.Core.List.{List}
use Prim.Native.Nat.{ℕ, zero, suc, ◌+◌, ◌-◌, ◌≤◌, ◌<◌}
use native.Mathlib.Omega.{arith}
use lib.Dec.{eqb, ltb}
use borrow.Author.Tests.{eq-eqb, ne_eqb}
use Rattle.std.specs.Prelude.{Some}
use Rattle.reckon.specs.Tests.{pick, refusal}
use Rattle.reckon.proofs.TestLaws.{pick_true, pick_false}
use Rattle.trials.proofs.RingLaws.{fine_ring}
use Rattle.ledger.specs.Runs.{Plan, World, world, seen_of}
use Rattle.ledger.specs.Record.{room_slots, ring_of}
use Rattle.ledger.specs.declared.runs.Run.{Run}
use Rattle.checks.specs.Given.{Given}
use Rattle.flood.specs.Run.{Ended, ended, go_on, run_from, run_to, steps_on}
use Rattle.flood.specs.Step.{step_number, stepped}
use Rattle.checks.specs.Refusals.{run_checks}
use Rattle.checks.proofs.CheckLaws.{ring_is}
use Rattle.flood.proofs.RunToLaws.{checks_passed}
use Rattle.hatches.specs.Log.{Evening, evening, rates_kept, rates_back, log_with, hatch_named, entry_refusals}
use Rattle.evenings.specs.Taking.{rates_with, line_run, line_back, further, slots, after_hatch, after_rate, after_back, entered, steps_number, entry_number, after_entry, TakesEntry}
use Rattle.hatches.specs.declared.lines.Entry.{Entry}
use Rattle.hatches.specs.declared.lines.Entry.TheVariants.{Hatch, Rate, Back}
use Rattle.hatches.specs.declared.log.Log.{Log}
use Rattle.evenings.proofs.RingSteps.{run_made}

-- ---- a run's steps

-- no more than ms are left to its end
go_on_few : (n made : ℕ) (w : World) (rest : Ended) {most : ℕ} → made ≤ most → rest.steps ≤ most → (go_on n made w rest).steps ≤ most
unfolding go_on
go_on_few zero made w rest h k = k
go_on_few (suc n) made w rest h k = h

from_few : (p : Plan) (g : Given) (end most made : ℕ) (w : World) → (run_from p g end most made w).steps ≤ made + most
unfolding run_from pick
from_few p g end zero made w = omega arith
from_few p g end (suc most) made w = go (ltb w.run.clock end) (from_few p g end most (suc made) (stepped p g w))
  where
    go : (b : Bool) → (run_from p g end most (suc made) (stepped p g w)).steps ≤ suc made + most →
        (pick b (go_on (step_number p g w) made w (run_from p g end most (suc made) (stepped p g w))) (ended 0 made w)).steps ≤ made + suc most
    go true h = go_on_few (step_number p g w) made w _ (omega arith) (omega arith)
    go false h = omega arith

module _ (p : Plan) (g : Given) (end : ℕ) (w : World) {e : Ended} (h : e ≡ run_to p g end w) where
  same_steps : e.steps ≡ (run_to p g end w).steps
  same_steps = ap (λ (x : Ended). x.steps) h

  pub run_few : e.steps ≤ end - w.run.clock
  unfolding run_to
  run_few =
      omega (
        arith,
        same_steps,
        go_on_few (refusal (run_checks p g end w)) 0 w (run_from p g end (end - w.run.clock) 0 w) {most = end - w.run.clock} (omega arith) (omega (arith, from_few p g end (end - w.run.clock) 0 w)),
      )

  -- where some were made, the ring is in range
  pub run_newest : 0 < e.steps → w.run.newest < room_slots p w.records
  unfolding steps_on
  run_newest l =
      let first : step_number p g w ≡ 0 = (run_made p g end w).each_made 0 (omega (arith, same_steps)) in
      (fine_ring _ _ _ (ring_is p g (ring_of p w) (seen_of w) (checks_passed p g w first))).newest_below

-- ---- what a line does

module _ (p : Plan) (g : Given) (e : Evening) where
  pub rate_done :
      (clock n rate : ℕ) {refused steps k : ℕ} {depths lasts records began written : List ℕ} {run : Run} {log : Log} →
      ended refused steps (world depths lasts records run) ≡ line_run p g e clock → k ≡ slots p g e →
      began ≡ rates_kept k steps e.log.run.newest e.log.litres e.began → written ≡ rates_with e.log.litres n rate refused →
      log ≡ log_with e.log run (e.log.steps + steps) written →
      (refused ≡ (line_run p g e clock).number) × (evening depths lasts records began log ≡ after_rate p g e clock n rate)
  unfolding after_rate
  rate_done clock n rate {refused} {steps} {depths = depths} {lasts} {records} {run = run} h z b v l = (
    ap (λ (x : Ended). x.number) h,
    ap₂ (λ (k : List ℕ) (m : Log). evening depths lasts records k m)
        (b ∙ ap (λ (k : ℕ). rates_kept k steps e.log.run.newest e.log.litres e.began) z)
        (l ∙ ap (λ (w : List ℕ). log_with e.log run (e.log.steps + steps) w) v)
        ∙ ap
        (λ (x : Ended).
        further p g e x.world (e.log.steps + x.steps) (rates_with e.log.litres n rate x.number) (rates_kept (slots p g e) x.steps e.log.run.newest e.log.litres e.began))
        h,
  )

  pub back_done :
      (count : ℕ) {refused steps k : ℕ} {depths lasts records litres : List ℕ} {run : Run} {log : Log} →
      ended refused steps (world depths lasts records run) ≡ line_back p g e count → k ≡ slots p g e →
      litres ≡ rates_back k e.began e.log steps → log ≡ log_with e.log run (e.log.steps - steps) litres →
      (refused ≡ (line_back p g e count).number) × (evening depths lasts records e.began log ≡ after_back p g e count)
  unfolding after_back
  back_done count {refused} {steps} {depths = depths} {lasts} {records} {run = run} h z r l = (
    ap (λ (x : Ended). x.number) h,
    ap (λ (m : Log). evening depths lasts records e.began m)
        (l ∙ ap (λ (w : List ℕ). log_with e.log run (e.log.steps - steps) w) (r ∙ ap (λ (k : ℕ). rates_back k e.began e.log steps) z))
        ∙ ap (λ (x : Ended). further p g e x.world (e.log.steps - x.steps) (rates_back (slots p g e) e.began e.log x.steps) e.began) h,
  )

  -- ---- a line that is refused before its steps, and one that is not

  pub take-refused : (entry : Entry) {n : ℕ} → n ≡ refusal (entry_refusals p g e entry) → (n ≡ 0 → ⊥) → TakesEntry p g (Some entry) e n e
  unfolding entry_number after_entry
  take-refused entry h d =
      let z : eqb (refusal (entry_refusals p g e entry)) 0 ≡ false = ne_eqb _ _ (λ y. d (h ∙ y)) in
      record { number_is = h ∙ sym (pick_false _ _ z); evening_is = sym (pick_false _ _ z) }

  pub take_made : (entry : Entry) → refusal (entry_refusals p g e entry) ≡ 0 → {n : ℕ} {after : Evening} → n ≡ steps_number p g e entry → after ≡ entered p g e entry →
      TakesEntry p g (Some entry) e n after
  unfolding entry_number after_entry
  take_made entry z a b =
      let y = eq-eqb _ _ z in
      record { number_is = a ∙ sym (pick_true _ _ y); evening_is = b ∙ sym (pick_true _ _ y) }

-- by the kind of line
module _ (p : Plan) (g : Given) (e : Evening) {entry : Entry} (z : refusal (entry_refusals p g e entry) ≡ 0) where
  pub took_hatch : {n row column : ℕ} → entry ≡ Hatch n row column → {log : Log} → log ≡ hatch_named e.log n row column →
      TakesEntry p g (Some entry) e 0 (evening e.depths e.lasts e.records e.began log)
  unfolding steps_number entered after_hatch
  took_hatch h l =
      take_made p g e entry z (ap (steps_number p g e) (sym h))
      (ap (λ (m : Log). evening e.depths e.lasts e.records e.began m) l ∙ ap (entered p g e) (sym h))

  pub took_rate : {clock n rate number : ℕ} {after : Evening} → entry ≡ Rate clock n rate →
      (number ≡ (line_run p g e clock).number) × (after ≡ after_rate p g e clock n rate) → TakesEntry p g (Some entry) e number after
  unfolding steps_number entered
  took_rate h t = take_made p g e entry z (t.0 ∙ ap (steps_number p g e) (sym h)) (t.1 ∙ ap (entered p g e) (sym h))

  pub took_back : {count number : ℕ} {after : Evening} → entry ≡ Back count →
      (number ≡ (line_back p g e count).number) × (after ≡ after_back p g e count) → TakesEntry p g (Some entry) e number after
  unfolding steps_number entered
  took_back h t = take_made p g e entry z (t.0 ∙ ap (steps_number p g e) (sym h)) (t.1 ∙ ap (entered p g e) (sym h))
