-- Laws of the figures that are told before a run.
-- Assumes nothing.
use mathlib.Core.Path.{◌≡◌, refl, sym, ◌∙◌, ap}
use mathlib.Core.Bool.{Bool, true, false}
use Prim.Native.Nat.{ℕ, zero, suc, ◌-◌, ◌*◌, ◌/◌, ◌%◌, ◌≤◌}
use native.Mathlib.Nat.{mul-le-mul, div-le_self}
use native.Mathlib.Omega.{arith}
use borrow.Author.Tests.{eqb-true, leb-true}
use Rattle.reckon.specs.Ranges.{last_clock, most_update}
use Rattle.reckon.proofs.TestLaws.{every_each, refusal_passed}
use Rattle.rule.specs.Length.{is_update}
use Rattle.rule.specs.Bounds.{steps_over, most_steps, least_steps}
use Rattle.rule.specs.Inner.InRange.{RulesInRange}
use Rattle.rule.specs.declared.rules.Rules.{Rules}
use Rattle.rule.proofs.RuleLaws.{rules_are}
use Rattle.rule.proofs.SpanLaws.{over_le}
use Rattle.checks.specs.Bounds.{bounds_refusals, bounds_number, spans_whole, figures, told_bounds, bounds_of}
use Rattle.checks.specs.declared.bounds.StepBounds.{StepBounds}
use Rattle.checks.specs.declared.bounds.Bounds.{Bounds}
use Rattle.checks.specs.declared.bounds.Bounds.TheVariants.{Bounded, NotBounded, Refused}
use Rattle.checks.proofs.CheckLaws.{end_is}

-- ---- the answer, as the code comes to it

module _ (b : StepBounds) where
  told-refused : {m : ℕ} (n : ℕ) (holds : Bool) → n ≡ m → (n ≡ 0 → ⊥) → Refused n ≡ told_bounds m holds b
  unfolding told_bounds
  told-refused zero holds e d = absurd (d refl)
  told-refused (suc n) holds e d = rw (sym e)

  told_not : {m : ℕ} {holds : Bool} → m ≡ 0 → holds ≡ false → NotBounded ≡ told_bounds m holds b
  unfolding told_bounds
  told_not e h = rw (e, h)

  told_both : {m : ℕ} {holds : Bool} → m ≡ 0 → holds ≡ true → Bounded b ≡ told_bounds m holds b
  unfolding told_bounds
  told_both e h = rw (e, h)

module _ (r : Rules) (clock end : ℕ) where
  module _ {n : ℕ} (e : n ≡ bounds_number r clock end) where
    pub bounds_refused : (n ≡ 0 → ⊥) → Refused n ≡ bounds_of r clock end
    unfolding bounds_of
    bounds_refused d = told-refused _ n _ e d

    module _ (z : n ≡ 0) where
      pub bounds_none : spans_whole r clock end ≡ false → NotBounded ≡ bounds_of r clock end
      unfolding bounds_of
      bounds_none h = told_not _ (sym e ∙ z) h

      pub bounds-told : {b : StepBounds} → spans_whole r clock end ≡ true → b ≡ figures r clock end → Bounded b ≡ bounds_of r clock end
      unfolding bounds_of
      bounds-told h q = ap Bounded q ∙ told_both _ (sym e ∙ z) h

      -- what its tests leave known
      pub bounds_rules : RulesInRange r
      unfolding bounds_number bounds_refusals
      bounds_rules =
          let rows = refusal_passed (bounds_refusals r clock end) tt (sym e ∙ z) in
          rules_are r rows.0 (every_each _ rows.1.0).0

      pub bounds_end : end ≤ last_clock
      unfolding bounds_number bounds_refusals
      bounds_end =
          let rows = refusal_passed (bounds_refusals r clock end) tt (sym e ∙ z) in
          (end_is r end (every_each _ rows.1.0).1.0).0

  pub whole_spans : spans_whole r clock end ≡ true → (clock % r.update ≡ 0) × (clock ≤ end)
  unfolding spans_whole is_update
  whole_spans h = let both = every_each _ h in (eqb-true _ _ both.0, leb-true _ _ both.1.0)

  -- both products fit
  pub figure_to :
      {spans steps length : ℕ} → RulesInRange r → end ≤ last_clock → spans ≡ (end - clock) / r.update → steps ≡ steps_over r.update length →
      1 ≤ length → spans * steps ≤ last_clock * most_update
  figure_to {spans} {steps} {length} o h e q pos =
      let few : spans ≤ last_clock = omega (arith, e, h, div-le_self (end - clock) r.update) in
      let each : steps ≤ most_update = omega (arith, q, over_le r.update pos, o.update_to) in
      mul-le-mul few each

  pub figures_are :
      {spans most least : ℕ} → spans ≡ (end - clock) / r.update → most ≡ steps_over r.update r.shortest →
      least ≡ steps_over r.update r.longest → record { most = spans * most; least = spans * least } ≡ figures r clock end
  unfolding figures most_steps least_steps
  figures_are s m l = rw (s, m, l)

-- ---- an answer with figures says that they hold

kind : Bounds → ℕ
kind (Bounded b) = 0
kind NotBounded = 1
kind (Refused n) = 2

figures_in : Bounds → StepBounds → StepBounds
figures_in (Bounded b) other = b
figures_in NotBounded other = other
figures_in (Refused n) other = other

told_says : (n : ℕ) (holds : Bool) {f b : StepBounds} → told_bounds n holds f ≡ Bounded b → (holds ≡ true) × (b ≡ f)
unfolding told_bounds kind figures_in
told_says (suc n) holds e = absurd (omega (arith, ap kind e))
told_says zero false e = absurd (omega (arith, ap kind e))
told_says zero true {f} {b} e = (refl, sym (ap (λ (a : Bounds). figures_in a f) e))

pub bounded_says : (r : Rules) (clock end : ℕ) {b : StepBounds} → bounds_of r clock end ≡ Bounded b → (spans_whole r clock end ≡ true) × (b ≡ figures r clock end)
unfolding bounds_of
bounded_says r clock end e = told_says (bounds_number r clock end) (spans_whole r clock end) e
