-- A run to one clock and then to another is the run to the second: each step of the first is one of the second's, which goes on from there.
-- Assumes nothing.
use mathlib.Core.Path.{◌≡◌, refl, sym, ap, subst, ◌∙◌}
use mathlib.Core.Bool.{true}
use Prim.Native.Nat.{ℕ, zero, suc, ◌-◌, ◌≤◌, ◌<◌}
use native.Mathlib.Decide.{dec_lt}
use native.Mathlib.Omega.{arith}
use Rattle.reckon.specs.Tests.{refusal}
use Rattle.reckon.proofs.TestLaws.{each_every, refusal_passed, passed_refusal}
use Rattle.ledger.specs.Runs.{Plan, World, seen_of}
use Rattle.ledger.specs.Record.{ring_of}
use Rattle.checks.specs.Given.{Given}
use Rattle.checks.specs.Refusals.{end_fine, check_refusals, run_checks}
use Rattle.checks.proofs.CheckLaws.{checks_named, run_checks_step, run_checks_end}
use Rattle.flood.specs.Step.{step_number, stepped}
use Rattle.flood.specs.Run.{Ended, ended, gone_on, run_to}
use Rattle.flood.proofs.RunToLaws.{Valid, still_valid, clock_on, whole, run_ends, run-refused, run_steps, run_passed}

ended_same : {n m k l : ℕ} {w v : World} → ended n k w ≡ ended m l v → (n ≡ m) × ((k ≡ l) × (w ≡ v))
ended_same e = (ap (λ (x : Ended). x.number) e, (ap (λ (x : Ended). x.steps) e, ap (λ (x : Ended). x.world) e))

module _ (p : Plan) (g : Given) where
  -- a world whose rows pass for a step passes for a run to any good end
  valid_run : (end : ℕ) (w : World) → Valid p g w → end_fine g.lie.rules end ≡ true → refusal (run_checks p g end w) ≡ 0
  unfolding check_refusals
  valid_run end w ok e =
      let r = refusal_passed _ (checks_named p g (ring_of p w) (seen_of w)) ok in
      passed_refusal _ (
        r.0,
        (r.1.0, (r.1.1.0, (r.1.1.1.0, (each_every _ (r.1.1.1.1.0, (e, tt)), (r.1.1.1.1.1.0, tt))))),
      )

  -- ---- steps made before are counted beside those of the run

  one_more : (made : ℕ) (e : Ended) → gone_on made (gone_on 1 e) ≡ gone_on (suc made) e
  one_more made e = ap (λ (n : ℕ). ended e.number n e.world) (omega arith)

  over : (end made : ℕ) (w : World) → end ≤ w.run.clock → whole p g end made w ≡ gone_on made (whole p g end 0 w)
  over end made w l =
      run_ends p g end made w l ∙ sym (ap (gone_on made) (run_ends p g end 0 w l) ∙ ap (λ (n : ℕ). ended 0 n w) (omega arith))

  counted :
      (end most made : ℕ) (w : World) → Valid p g w → end - w.run.clock ≤ most →
      whole p g end made w ≡ gone_on made (whole p g end 0 w)
  counted end zero made w ok h = over end made w (omega arith)
  counted end (suc most) made w ok h =
      go (dec_lt w.run.clock end) (step_number p g w) refl (λ n. counted end most n (stepped p g w))
    where
      go :
          Dec (w.run.clock < end) → (k : ℕ) → step_number p g w ≡ k →
          ((n : ℕ) → Valid p g (stepped p g w) → end - (stepped p g w).run.clock ≤ most →
          whole p g end n (stepped p g w) ≡ gone_on n (whole p g end 0 (stepped p g w))) →
          whole p g end made w ≡ gone_on made (whole p g end 0 w)
      go (no l) k e ih = over end made w (omega arith)
      go (yes l) zero e ih =
          let t = clock_on p g w ok e in
          let ok' = still_valid p g w ok e in
          run_steps p g end made w ok l e
          ∙ (ih (suc made) ok' (omega arith) ∙ sym (ap (gone_on made) (run_steps p g end 0 w ok l e ∙ ih 1 ok' (omega arith)) ∙ one_more made _))
      go (yes l) (suc k) e ih =
          let d : step_number p g w ≡ 0 → ⊥ = λ z. omega (arith, sym e ∙ z) in
          run-refused p g end made w ok l d
          ∙ sym (ap (gone_on made) (run-refused p g end 0 w ok l d) ∙ ap (λ (m : ℕ). ended (step_number p g w) m w) (omega arith))

  -- ---- where the first run has come to, the second goes on

  record Come (end made : ℕ) (w : World) (k : ℕ) (v : World) : Type 0 where
    same : whole p g end made w ≡ whole p g end k v
    valid : Valid p g v

  come_over :
      (first end made : ℕ) (w : World) → Valid p g w → first ≤ w.run.clock → {k : ℕ} {v : World} → whole p g first made w ≡ ended 0 k v →
      Come end made w k v
  come_over first end made w ok l {k} {v} e =
      let s = ended_same (sym (run_ends p g first made w l) ∙ e) in
      subst (λ (m : ℕ). Come end made w m v) s.1.0
      (subst (λ (x : World). Come end made w made x) s.1.1 (record { same = refl; valid = ok }))

  come :
      (first end most made : ℕ) (w : World) → first ≤ end → Valid p g w → first - w.run.clock ≤ most → {k : ℕ} {v : World} →
      whole p g first made w ≡ ended 0 k v → Come end made w k v
  come first end zero made w b ok h e = come_over first end made w ok (omega arith) e
  come first end (suc most) made w b ok h {k} {v} e =
      go (dec_lt w.run.clock first) (step_number p g w) refl (λ ok' h' e'. come first end most (suc made) (stepped p g w) b ok' h' e')
    where
      go :
          Dec (w.run.clock < first) → (m : ℕ) → step_number p g w ≡ m →
          (Valid p g (stepped p g w) → first - (stepped p g w).run.clock ≤ most →
          whole p g first (suc made) (stepped p g w) ≡ ended 0 k v → Come end (suc made) (stepped p g w) k v) →
          Come end made w k v
      go (no l) m q ih = come_over first end made w ok (omega arith) e
      go (yes l) zero q ih =
          let t = clock_on p g w ok q in
          let next = ih (still_valid p g w ok q) (omega arith) (sym (run_steps p g first made w ok l q) ∙ e) in
          record { same = run_steps p g end made w ok (omega arith) q ∙ next.same; valid = next.valid }
      go (yes l) (suc m) q ih =
          let d : step_number p g w ≡ 0 → ⊥ = λ z. omega (arith, sym q ∙ z) in
          absurd (d (ended_same (sym (run-refused p g first made w ok l d) ∙ e)).0)

  pub run_in_two :
      (first end : ℕ) (w : World) → first ≤ end → refusal (run_checks p g first w) ≡ 0 → refusal (run_checks p g end w) ≡ 0 →
      (run_to p g first w).number ≡ 0 →
      run_to p g end w ≡ gone_on (run_to p g first w).steps (run_to p g end (run_to p g first w).world)
  run_in_two first end w b f s z =
      let ok = run_checks_step p g end w s in
      let part : run_to p g first w ≡ whole p g first 0 w = sym (run_passed p g first w (sym f) refl refl) in
      let all : run_to p g end w ≡ whole p g end 0 w = sym (run_passed p g end w (sym s) refl refl) in
      let come_to = come first end (first - w.run.clock) 0 w b ok (omega arith) (sym part ∙ ap (λ (n : ℕ). ended n (run_to p g first w).steps (run_to p g first w).world) z) in
      let v = (run_to p g first w).world in
      let passed = valid_run end v come_to.valid (run_checks_end p g end w s) in
      let rest : run_to p g end v ≡ whole p g end 0 v = sym (run_passed p g end v (sym passed) refl refl) in
      all
      ∙ (come_to.same
      ∙ (counted end (end - v.run.clock) (run_to p g first w).steps v come_to.valid (omega arith)
      ∙ ap (gone_on (run_to p g first w).steps) (sym rest)))
