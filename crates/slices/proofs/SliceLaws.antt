-- Laws of a run in slices: a step that is refused in one is the refusal of the run in one, and where each slice has come to is where that run has.
-- Assumes nothing.
use mathlib.Core.Path.{◌≡◌, refl, sym, ap, ◌∙◌}
use mathlib.Core.Bool.{true}
use mathlib.Core.List.{List}
use Prim.Native.Nat.{ℕ, zero, suc, ◌+◌, ◌-◌, ◌*◌, ◌/◌, ◌%◌, ◌≤◌, ◌<◌}
use native.Mathlib.Nat.{mul-mod_left, mul-le-mul_right, div-mul-le_self, div-add-mod'}
use native.Mathlib.Decide.{dec_lt}
use native.Mathlib.Omega.{arith}
use lib.Dec.{ltb}
use borrow.Author.Tests.{eq-eqb, le-leb}
use Rattle.reckon.specs.Tests.{refusal}
use Rattle.reckon.specs.Ranges.{last_clock}
use Rattle.reckon.proofs.TestLaws.{pick_both, each_every, refusal_passed, passed_refusal}
use Rattle.rule.specs.declared.rules.Rules.{Rules}
use Rattle.ledger.specs.Runs.{Plan, World, world, seen_of}
use Rattle.ledger.specs.Record.{ring_of}
use Rattle.ledger.specs.declared.runs.Run.{Run}
use Rattle.checks.specs.Given.{Given}
use Rattle.checks.specs.Fresh.{fresh_run}
use Rattle.checks.specs.Refusals.{end_fine, check_refusals, run_checks}
use Rattle.checks.proofs.CheckLaws.{ready, checks_named, run_checks_step, run_checks_end, end_is}
use Rattle.flood.specs.Step.{step_number, stepped}
use Rattle.flood.specs.Run.{Ended, ended, go_on, gone_on, run_from, run_to}
use Rattle.flood.proofs.RunToLaws.{Valid, still_valid, clock_on, whole, run_ends, run-refused, run_steps, run_passed}
use Rattle.flood.proofs.RunInTwoLaws.{run_in_two}
use Rattle.sheet.specs.Sheet.{Rooms, plan_in, given_in, no_lasts, no_records, checks_in}
use Rattle.sheet.specs.declared.reading.Heading.{Heading}
use Rattle.sheet.proofs.JudgeLaws.{judge_is}

module _ (p : Plan) (g : Given) where
  abbrev rules : Rules
  rules = g.lie.rules

  -- what passes for one end passes for another that is good
  pub passes_for : (first end : ℕ) (w : World) → refusal (run_checks p g end w) ≡ 0 → end_fine rules first ≡ true → refusal (run_checks p g first w) ≡ 0
  unfolding check_refusals
  passes_for first end w z e =
      let r = refusal_passed _ (checks_named p g (ring_of p w) (seen_of w)) (run_checks_step p g end w z) in
      passed_refusal _ (
        r.0,
        (r.1.0, (r.1.1.0, (r.1.1.1.0, (each_every _ (r.1.1.1.1.0, (e, tt)), (r.1.1.1.1.1.0, tt))))),
      )

  -- ---- a refusal before the first clock is that of the run to the second

  never_refused : (first made : ℕ) (w : World) {A : Type 0} → first ≤ w.run.clock → ((whole p g first made w).number ≡ 0 → ⊥) → A
  never_refused first made w l d = absurd (d (ap (λ (x : Ended). x.number) (run_ends p g first made w l)))

  refused_on :
      (first end most made : ℕ) (w : World) → first ≤ end → Valid p g w → first - w.run.clock ≤ most →
      ((whole p g first made w).number ≡ 0 → ⊥) → whole p g end made w ≡ whole p g first made w
  refused_on first end zero made w b ok h d = never_refused first made w (omega arith) d
  refused_on first end (suc most) made w b ok h d =
      go (dec_lt w.run.clock first) (step_number p g w) refl (λ ok' h' d'. refused_on first end most (suc made) (stepped p g w) b ok' h' d')
    where
      go :
          Dec (w.run.clock < first) → (m : ℕ) → step_number p g w ≡ m →
          (Valid p g (stepped p g w) → first - (stepped p g w).run.clock ≤ most → ((whole p g first (suc made) (stepped p g w)).number ≡ 0 → ⊥) →
          whole p g end (suc made) (stepped p g w) ≡ whole p g first (suc made) (stepped p g w)) →
          whole p g end made w ≡ whole p g first made w
      go (no l) m q ih = never_refused first made w (omega arith) d
      go (yes l) zero q ih =
          let t = clock_on p g w ok q in
          let on = run_steps p g first made w ok l q in
          run_steps p g end made w ok (omega arith) q
          ∙ (ih (still_valid p g w ok q) (omega arith) (λ z. d (ap (λ (x : Ended). x.number) on ∙ z)) ∙ sym on)
      go (yes l) (suc m) q ih =
          let r : step_number p g w ≡ 0 → ⊥ = λ z. omega (arith, sym q ∙ z) in
          run-refused p g end made w ok (omega arith) r ∙ sym (run-refused p g first made w ok l r)

  in_one : (end : ℕ) (w : World) → refusal (run_checks p g end w) ≡ 0 → run_to p g end w ≡ whole p g end 0 w
  in_one end w z = sym (run_passed p g end w (sym z) refl refl)

  pub refused_in_two :
      (first end : ℕ) (w : World) → first ≤ end → refusal (run_checks p g first w) ≡ 0 → refusal (run_checks p g end w) ≡ 0 →
      ((run_to p g first w).number ≡ 0 → ⊥) → run_to p g end w ≡ run_to p g first w
  refused_in_two first end w b f s d =
      let part = in_one first w f in
      in_one end w s
      ∙ (refused_on first end (first - w.run.clock) 0 w b (run_checks_step p g end w s) (omega arith)
      (λ z. d (ap (λ (x : Ended). x.number) part ∙ z))
      ∙ sym part)

  -- ---- no more steps than ms

  few_from : (end most made : ℕ) (w : World) → (run_from p g end most made w).steps ≤ made + most
  unfolding run_from go_on
  few_from end zero made w = omega arith
  few_from end (suc most) made w =
      pick_both (λ (x : Ended). x.steps ≤ made + suc most) (ltb w.run.clock end)
      (go (step_number p g w) _ (few_from end most (suc made) (stepped p g w))) (omega arith)
    where
      go : (n : ℕ) (rest : Ended) → rest.steps ≤ suc made + most → (go_on n made w rest).steps ≤ made + suc most
      go zero rest h = omega (arith, h)
      go (suc n) rest h = omega arith

  few_steps : (end : ℕ) (w : World) → refusal (run_checks p g end w) ≡ 0 → (run_to p g end w).steps ≤ end
  few_steps end w z =
      omega (arith, ap (λ (x : Ended). x.steps) (in_one end w z), few_from end (end - w.run.clock) 0 w)

-- ---- slices of whole update times

-- after so many update times the run in one has made so many steps and left such a world
pub record Come (p : Plan) (g : Given) (end : ℕ) (w : World) (done steps : ℕ) (now : World) : Type 0 where
  pub few : done ≤ end / g.lie.rules.update
  pub come : run_to p g (done * g.lie.rules.update) w ≡ ended 0 steps now

module _ (p : Plan) (g : Given) (end : ℕ) (w : World) (passed : refusal (run_checks p g end w) ≡ 0) where
  abbrev U : ℕ
  U = g.lie.rules.update

  good_end : (end ≤ last_clock) × (end % U ≡ 0)
  good_end = end_is g.lie.rules end (run_checks_end p g end w passed)

  pub update_some : 0 < U
  update_some = omega (arith, (ready p g (ring_of p w) (seen_of w) (run_checks_step p g end w passed)).waters.rules.update_from)

  all_updates : end / U * U ≡ end
  all_updates = omega (arith, div-add-mod' end U, good_end.1)

  pub within : (done : ℕ) → done ≤ end / U → done * U ≤ end
  within done h = omega (arith, mul-le-mul_right U h, div-mul-le_self end U)

  passes_at : (done : ℕ) → done ≤ end / U → refusal (run_checks p g (done * U) w) ≡ 0
  unfolding end_fine
  passes_at done h =
      passes_for p g (done * U) end w passed
      (each_every _ (le-leb (done * U) last_clock (omega (arith, within done h, good_end.0)), (eq-eqb _ _ (mul-mod_left done U), tt)))

  pub come_first : Come p g end w 0 0 w
  come_first =
      record { few = omega arith; come = in_one p g (0 * U) w (passes_at 0 (omega arith)) ∙ run_ends p g (0 * U) 0 w (omega arith) }

  -- one slice more, from there
  module _
      {done next steps n k : ℕ} {now after : World} (c : Come p g end w done steps now) (on : done < next) (few : next ≤ end / U)
      (f : ended n k after ≡ run_to p g (next * U) now) where
    come_to : run_to p g (next * U) w ≡ ended n (steps + k) after
    come_to =
        run_in_two p g (done * U) (next * U) w (mul-le-mul_right U (omega arith)) (passes_at done c.few) (passes_at next few)
        (ap (λ (x : Ended). x.number) c.come)
        ∙ (ap (λ (x : Ended). gone_on x.steps (run_to p g (next * U) x.world)) c.come ∙ ap (gone_on steps) (sym f))

    pub come_on : n ≡ 0 → Come p g end w next (steps + k) after
    come_on z = record { few = few; come = come_to ∙ ap (λ (m : ℕ). ended m (steps + k) after) z }

    pub come_few : steps + k ≤ last_clock
    come_few =
        omega (
          arith,
          ap (λ (x : Ended). x.steps) come_to,
          few_steps p g (next * U) w (passes_at next few),
          within next few,
          good_end.0,
        )

    pub come_refused : (n ≡ 0 → ⊥) → ended n (steps + k) after ≡ run_to p g end w
    come_refused d =
        sym (refused_in_two p g (next * U) end w (within next few) (passes_at next few) passed (λ z. d (sym (ap (λ (x : Ended). x.number) come_to) ∙ z)) ∙ come_to)

  pub come_all : {done steps : ℕ} {now : World} → Come p g end w done steps now → end / U ≤ done → ended 0 steps now ≡ run_to p g end w
  come_all {done} c h =
      let whole-way : done * U ≡ end = ap (λ (n : ℕ). n * U) (omega (arith, h, c.few)) ∙ all_updates in
      sym c.come ∙ ap (λ (n : ℕ). run_to p g n w) whole-way

-- ---- a sheet that was read well passes from its fresh run

pub sheet_passes :
    (h : Heading) (held : Rooms) {lasts records : List ℕ} {u : Run} → checks_in h.shape h.rules held h.end ≡ 0 →
    lasts ≡ no_lasts h.shape h.rules held → records ≡ no_records h.shape h.rules held → u ≡ fresh_run h.rules 1 →
    refusal (run_checks (plan_in h.shape h.rules held) (given_in h.shape h.rules held) h.end (world held.cells.depths lasts records u)) ≡ 0
sheet_passes h held z l c f = judge_is h.shape h.rules held h.end refl f l c ∙ z
