-- A run that is not refused has come to its end: no step passes the next multiple of U, and the end is one.
-- Assumes nothing.
use mathlib.Core.Path.{◌≡◌, refl, sym, ap, ◌∙◌}
use Prim.Native.Nat.{ℕ, zero, suc, ◌+◌, ◌-◌, ◌/◌, ◌%◌, ◌≤◌, ◌<◌}
use native.Mathlib.Nat.{div-add-mod', mod-lt, mul-le-mul_right, suc-mul}
use native.Mathlib.Decide.{dec_lt, ℕ_discrete}
use native.Mathlib.Omega.{arith}
use borrow.Author.Tests.{eq-eqb}
use Rattle.reckon.specs.Tests.{refusal}
use Rattle.reckon.proofs.TestLaws.{pick_true}
use Rattle.rule.specs.Length.{duration_for}
use Rattle.ledger.specs.Runs.{Plan, World, seen_of}
use Rattle.ledger.specs.Record.{ring_of}
use Rattle.checks.specs.Given.{Given}
use Rattle.moves.specs.Moves.{step_duration}
use Rattle.checks.specs.Refusals.{run_checks}
use Rattle.flood.specs.Step.{step_number, stepped}
use Rattle.flood.specs.Run.{Ended, ended, run_to}
use Rattle.checks.proofs.CheckLaws.{ready, end_is, run_checks_step, run_checks_end}
use Rattle.flood.proofs.RunToLaws.{Valid, still_valid, clock_after, clock_on, whole, run_ends, run-refused, run_steps, run_checked, run_passed}
use Rattle.hatches.specs.Log.{Evening}
use Rattle.evenings.specs.Taking.{world_of, drawn, entry_number, steps_number, after_rate, entered, after_entry}
use Rattle.hatches.specs.declared.lines.Entry.TheVariants.{Rate}
use Rattle.hatches.proofs.RefusalLaws.{entered_is, rate_clock}
use Rattle.demands.proofs.LinePlaces.{number_zero}

-- the next multiple of U is not past an end that is one
next-within : (U clock end : ℕ) → 0 < U → end % U ≡ 0 → clock < end → clock + (U - clock % U) ≤ end
next-within U clock end u m l = go (dec_lt (clock / U) (end / U))
  where
    go : Dec (clock / U < end / U) → clock + (U - clock % U) ≤ end
    go (yes h) =
        omega (
          arith,
          div-add-mod' clock U,
          div-add-mod' end U,
          mod-lt clock {m = U} u,
          mul-le-mul_right U h,
          suc-mul (clock / U) U,
        )
    go (no h) =
        let k : end / U ≤ clock / U = omega arith in
        absurd (omega (arith, div-add-mod' clock U, div-add-mod' end U, mul-le-mul_right U k))

module _ (p : Plan) (g : Given) (end : ℕ) (m : end % g.lie.rules.update ≡ 0) where
  step-within : (w : World) → Valid p g w → step_number p g w ≡ 0 → w.run.clock < end → (stepped p g w).run.clock ≤ end
  unfolding step_duration duration_for
  step-within w ok z l =
      omega (
        arith,
        clock_after p g w ok z,
        next-within g.lie.rules.update w.run.clock end (ready p g (ring_of p w) (seen_of w) ok).waters.rules.update_from m l,
      )

  comes : (left made : ℕ) (w : World) → Valid p g w → w.run.clock ≤ end → end - w.run.clock ≤ left → (whole p g end made w).number ≡ 0 → (whole p g end made w).world.run.clock ≡ end
  comes zero made w ok c h z = ap (λ (x : Ended). x.world.run.clock) (run_ends p g end made w (omega arith)) ∙ omega arith
  comes (suc left) made w ok c h z = go (dec_lt w.run.clock end) (step_number p g w) refl (comes left (suc made) (stepped p g w))
    where
      go : Dec (w.run.clock < end) → (n : ℕ) → step_number p g w ≡ n →
          (Valid p g (stepped p g w) → (stepped p g w).run.clock ≤ end → end - (stepped p g w).run.clock ≤ left → (whole p g end (suc made) (stepped p g w)).number ≡ 0 →
          (whole p g end (suc made) (stepped p g w)).world.run.clock ≡ end) →
          (whole p g end made w).world.run.clock ≡ end
      go (no l) n e ih = ap (λ (x : Ended). x.world.run.clock) (run_ends p g end made w (omega arith)) ∙ omega arith
      go (yes l) zero e ih =
          let t = clock_on p g w ok e in
          let s = run_steps p g end made w ok l e in
          ap (λ (x : Ended). x.world.run.clock) s
          ∙ ih (still_valid p g w ok e) (step-within w ok e l) (omega arith) (ap (λ (x : Ended). x.number) (sym s) ∙ z)
      go (yes l) (suc n) e ih =
          let d : step_number p g w ≡ 0 → ⊥ = λ y. omega (arith, sym e ∙ y) in
          absurd (d (ap (λ (x : Ended). x.number) (sym (run-refused p g end made w ok l d)) ∙ z))

pub run-reaches : (p : Plan) (g : Given) (end : ℕ) (w : World) → w.run.clock ≤ end → (run_to p g end w).number ≡ 0 → (run_to p g end w).world.run.clock ≡ end
run-reaches p g end w c z = go (ℕ_discrete (refusal (run_checks p g end w)) 0)
  where
    go : Dec (refusal (run_checks p g end w) ≡ 0) → (run_to p g end w).world.run.clock ≡ end
    go (yes y) =
        let same : whole p g end 0 w ≡ run_to p g end w = run_passed p g end w {out = whole p g end 0 w} refl y refl in
        ap (λ (x : Ended). x.world.run.clock) (sym same)
        ∙ comes p g end (end_is g.lie.rules end (run_checks_end p g end w y)).1 (end - w.run.clock) 0 w (run_checks_step p g end w y) c (omega arith)
        (ap (λ (x : Ended). x.number) same ∙ z)
    go (no d) =
        let same : ended (refusal (run_checks p g end w)) 0 w ≡ run_to p g end w = run_checked p g end w refl d in
        absurd (d (ap (λ (x : Ended). x.number) same ∙ z))

pub line_clock : (p : Plan) (g : Given) (e : Evening) (clock n litres : ℕ) → entry_number p g e (Rate clock n litres) ≡ 0 → (after_entry p g e (Rate clock n litres)).log.run.clock ≡ clock
unfolding entry_number after_entry steps_number entered after_rate
line_clock p g e clock n litres z =
    let y = number_zero p g e (Rate clock n litres) z in
    let t = eq-eqb _ _ y in
    ap (λ (x : Evening). x.log.run.clock) (pick_true _ _ t)
    ∙ run-reaches p (drawn g e.log.hatches e.log.litres) clock (world_of e)
    (rate_clock g.lie.rules e.log clock n litres (entered_is p g e (Rate clock n litres) y).line).1 (sym (pick_true _ _ t) ∙ z)
