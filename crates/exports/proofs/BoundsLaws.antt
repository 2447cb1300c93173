-- What the exported figures give follows from what the call below gives.
-- Assumes nothing.
use mathlib.Core.Path.{◌≡◌, refl, sym, ap, ◌∙◌, subst}
use mathlib.Core.Bool.{true, false}
use mathlib.Core.List.{List, [], ◌∷◌}
use Prim.Native.Nat.{ℕ}
use Rattle.reckon.proofs.TestLaws.{pick_true, pick_false}
use Rattle.rule.specs.declared.rules.Rules.{Rules}
use Rattle.checks.specs.Bounds.{BoundsSteps}
use Rattle.checks.specs.declared.bounds.StepBounds.{StepBounds}
use Rattle.checks.specs.declared.bounds.Bounds.{Bounds}
use Rattle.checks.specs.declared.bounds.Bounds.TheVariants.{Bounded, NotBounded, Refused}
use Rattle.exports.specs.Bounds.{bounds_told, figures_in, bounds_sized, ExportsBounds}
use Rattle.exports.specs.Numbers.{rules_from}
use Rattle.exports.proofs.AnswerLaws.{sized_number, unsized_number}

module _ {a b : Bounds} (old : List ℕ) (e : a ≡ b) where
  bounds-told : {n : ℕ} {new : List ℕ} → n ≡ bounds_told b → new ≡ figures_in b old → (n ≡ bounds_told a) × (new ≡ figures_in a old)
  bounds-told h s = (h ∙ ap bounds_told (sym e), s ∙ ap (λ (z : Bounds). figures_in z old) (sym e))

pub told-refused : {a : Bounds} {n : ℕ} (old : List ℕ) → a ≡ Refused n → (n ≡ bounds_told a) × (old ≡ figures_in a old)
unfolding bounds_told figures_in
told-refused old e = bounds-told old e refl refl

pub told_not : {a : Bounds} (old : List ℕ) → a ≡ NotBounded → (104 ≡ bounds_told a) × (old ≡ figures_in a old)
unfolding bounds_told figures_in
told_not old e = bounds-told old e refl refl

pub told_both :
    {a : Bounds} {b : StepBounds} (old : List ℕ) {new : List ℕ} → a ≡ Bounded b → new ≡ b.most ∷ b.least ∷ [] →
    (0 ≡ bounds_told a) × (new ≡ figures_in a old)
unfolding bounds_told figures_in
told_both old e s = bounds-told old e refl s

module _ (clock end : ℕ) (rules old : List ℕ) where
  pub bounds_unsized : bounds_sized clock end rules old ≡ false → ExportsBounds clock end rules old 1 old
  bounds_unsized unfit = record { number_is = sym (unsized_number _ unfit); bounds_are = sym (pick_false _ _ unfit) }

  pub bounds-sized :
      {r : Rules} {a : Bounds} {number : ℕ} {bounds : List ℕ} → bounds_sized clock end rules old ≡ true → r ≡ rules_from rules →
      BoundsSteps r clock end a → (number ≡ bounds_told a) × (bounds ≡ figures_in a old) → ExportsBounds clock end rules old number bounds
  bounds-sized {r} {a} fits same told t =
      let f = subst (λ (x : Rules). BoundsSteps x clock end a) same told in
      record {
        number_is = t.0 ∙ (ap bounds_told f ∙ sym (sized_number fits));
        bounds_are = t.1 ∙ (ap (λ (z : Bounds). figures_in z old) f ∙ sym (pick_true _ _ fits));
      }
