-- How many steps a run makes (document 02, #112): by the spans from its clock to its end, a span being the time from a multiple of U to
-- the next. Followed step by step: each takes at least one off the most that is left, and at most one off the least.
-- Assumes nothing.
use mathlib.Core.Path.{◌≡◌, refl, sym, ◌∙◌}
use Prim.Native.Nat.{ℕ, zero, suc, ◌+◌, ◌-◌, ◌%◌, ◌≤◌, ◌<◌}
use native.Mathlib.Decide.{dec_lt, ℕ_discrete}
use native.Mathlib.Omega.{arith}
use Rattle.reckon.specs.Tests.{refusal}
use Rattle.rule.specs.Bounds.{most_steps, least_steps}
use Rattle.rule.specs.declared.rules.Rules.{Rules}
use Rattle.rule.proofs.SpanLaws.{Stands, Onward, most_left, least_left, over_none, stands_start, stands_end, step_on}
use Rattle.ledger.specs.Runs.{Plan, World, seen_of}
use Rattle.ledger.specs.Record.{ring_of}
use Rattle.checks.specs.Given.{Given}
use Rattle.moves.specs.Moves.{candidates, step_duration, step_length}
use Rattle.checks.specs.Refusals.{run_checks}
use Rattle.flood.specs.Step.{step_number, stepped}
use Rattle.flood.specs.Run.{Ended, run_to}
use Rattle.checks.proofs.CheckLaws.{ready, run_checks_step, run_checks_end, end_is}
use Rattle.flood.proofs.RunToLaws.{Valid, still_valid, clock_after, length-after, clock_on, whole, run_ends, run-refused, run_steps, run_checked, run_passed}

-- how many steps a run has made where it ends: the lower figure only where it is not refused
pub record Counted (most least : ℕ) (e : Ended) : Type 0 where
  pub at_most : e.steps ≤ most
  pub at_least : e.number ≡ 0 → least ≤ e.steps

counted-within : {most least most' least' : ℕ} {e : Ended} → most ≤ most' → least' ≤ least → Counted most least e → Counted most' least' e
counted-within m l c = record { at_most = omega (arith, m, c.at_most); at_least = λ z. omega (arith, l, c.at_least z) }

module _ (p : Plan) (g : Given) (end : ℕ) where
  abbrev rules : Rules
  rules = g.lie.rules

  -- one step: where the clock after it stands
  module _ (w : World) (ok : Valid p g w) (made : step_number p g w ≡ 0) where
    onward : {multiple rest spans : ℕ} →
        Stands rules.update end w.run.clock multiple rest spans → w.run.clock < end →
        Onward rules end (most_left rules spans rest w.run.length) (least_left rules spans rest w.run.length) (stepped p g w).run.clock (stepped p g w).run.length
    unfolding step_duration step_length
    onward s l =
        let o = ready p g (ring_of p w) (seen_of w) ok in
        rw (clock_after p g w ok made, length-after p g w ok made)
        (step_on rules o.waters.rules o.length_from s l (candidates p g.lie w.depths))

  -- how the rest of a run is counted, from where the clock stands
  abbrev Rest : ℕ → World → ℕ → ℕ → Type 0
  Rest made w rest spans =
      Counted (made + most_left rules spans rest w.run.length) (made + least_left rules spans rest w.run.length) (whole p g end made w)

  module _ (made : ℕ) (w : World) (ok : Valid p g w) {multiple rest spans : ℕ} (s : Stands rules.update end w.run.clock multiple rest spans) where
    at-end : end ≤ w.run.clock → Rest made w rest spans
    at-end h =
        let none = stands_end s h in
        let nothing = over_none (ready p g (ring_of p w) (seen_of w) ok).length_from in
        rw (run_ends p g end made w h, none.0, none.1) (record { at_most = omega arith; at_least = λ z. omega (arith, nothing) })

    at-refusal : w.run.clock < end → (step_number p g w ≡ 0 → ⊥) → Rest made w rest spans
    at-refusal l d = rw (run-refused p g end made w ok l d) (record { at_most = omega arith; at_least = λ z. absurd (d z) })

  -- each step takes at least 1 ms
  follow :
      (ms made : ℕ) (w : World) → Valid p g w → end - w.run.clock ≤ ms → (multiple rest spans : ℕ) →
      Stands rules.update end w.run.clock multiple rest spans → Rest made w rest spans
  follow zero made w ok h multiple rest spans s = at-end made w ok s (omega arith)
  follow (suc ms) made w ok h multiple rest spans s = go (dec_lt w.run.clock end) (step_number p g w) refl (follow ms (suc made) (stepped p g w))
    where
      go : Dec (w.run.clock < end) → (number : ℕ) → step_number p g w ≡ number →
          (Valid p g (stepped p g w) → end - (stepped p g w).run.clock ≤ ms → (m b n : ℕ) →
          Stands rules.update end (stepped p g w).run.clock m b n → Rest (suc made) (stepped p g w) b n) →
          Rest made w rest spans
      go (no l) number e ih = at-end made w ok s (omega arith)
      go (yes l) (suc number) e ih = at-refusal made w ok s l (λ z. omega (arith, sym e ∙ z))
      go (yes l) zero e ih =
          let after = onward w ok e s l in
          let t = clock_on p g w ok e in
          rw (run_steps p g end made w ok l e)
          (counted-within (omega (arith, after.most_falls)) (omega (arith, after.least_falls))
          (ih (still_valid p g w ok e) (omega arith) after.multiple after.rest after.spans after.stands))

  -- a run from a multiple of U to an end not before it; refused by rows 1 to 6 it has made no step
  pub run-counted :
      (w : World) → w.run.clock % rules.update ≡ 0 → w.run.clock ≤ end →
      Counted (most_steps rules w.run.clock end) (least_steps rules w.run.clock end) (run_to p g end w)
  unfolding most_steps least_steps
  run-counted w c h = go (ℕ_discrete (refusal (run_checks p g end w)) 0)
    where
      go : Dec (refusal (run_checks p g end w) ≡ 0) → Counted (most_steps rules w.run.clock end) (least_steps rules w.run.clock end) (run_to p g end w)
      go (no d) =
          rw (← run_checked p g end w {n = refusal (run_checks p g end w)} refl d)
          (record { at_most = omega arith; at_least = λ z. absurd (d z) })
      go (yes z) =
          let ok = run_checks_step p g end w z in
          let o = ready p g (ring_of p w) (seen_of w) ok in
          let s = stands_start o.waters.rules.update_from c (end_is rules end (run_checks_end p g end w z)).1 h in
          let none = over_none o.length_from in
          rw (← run_passed p g end w {out = whole p g end 0 w} refl z refl)
          (counted-within (omega (arith, none)) (omega (arith, none)) (follow (end - w.run.clock) 0 w ok (omega arith) _ _ _ s))
