-- Laws of the bounds' text: how long it can get, and what is put of each answer.
-- Assumes nothing.
use mathlib.Core.Path.{◌≡◌, refl, sym, ap}
use mathlib.Core.Bool.{Bool, true, false}
use mathlib.Core.List.{List, [], ◌∷◌, ◌++◌}
use Prim.Native.Nat.{ℕ, zero, suc, ◌^◌, ◌≤◌, ◌<◌}
use native.Mathlib.Nat.{not-suc-le-zero, le_of_suc-le-suc}
use native.Mathlib.Omega.{arith}
use lib.ListN.{length, get_or}
use Rattle.rule.specs.Bounds.{most_steps, least_steps}
use Rattle.rule.specs.declared.rules.Rules.{Rules}
use Rattle.checks.specs.Bounds.{bounds_number, spans_whole, figures, told_bounds, bounds_of}
use Rattle.checks.specs.declared.bounds.StepBounds.{StepBounds}
use Rattle.checks.specs.declared.bounds.Bounds.{Bounds}
use Rattle.checks.specs.declared.bounds.Bounds.TheVariants.{Bounded, NotBounded, Refused}
use Rattle.checks.proofs.BoundsLaws.{bounds_rules, bounds_end, figure_to}
use Rattle.text.specs.Reading.{newline}
use Rattle.text.specs.Writing.{fields_text, rest_text, line_text, Wrote}
use Rattle.text.proofs.WritingLaws.{fields_text_short, line_text_long, placed_none, written_as}
use Rattle.frames.specs.Bounds.{most_word, unbounded_word, bounds_text, most_bounds}

two_below : (n a b : ℕ) → a < n → b < n → (i : ℕ) → i < 2 → get_or (a ∷ b ∷ []) i 0 < n
two_below n a b h g zero l = h
two_below n a b h g (suc zero) l = g
two_below n a b h g (suc (suc i)) l = absurd (not-suc-le-zero (le_of_suc-le-suc (le_of_suc-le-suc l)))

pub both_short : (b : StepBounds) → b.most < 2 ^ 64 → b.least < 2 ^ 64 → length (line_text most_word (b.most ∷ b.least ∷ [])) ≤ most_bounds
both_short b h g =
    omega (
      arith,
      line_text_long most_word (b.most ∷ b.least ∷ []),
      fields_text_short 19 (b.most ∷ b.least ∷ []) (two_below (10 ^ 20) b.most b.least (omega arith) (omega arith)),
    )

told-short :
    (n : ℕ) (holds : Bool) (b : StepBounds) → (n ≡ 0 → (b.most < 2 ^ 64) × (b.least < 2 ^ 64)) →
    length (bounds_text (told_bounds n holds b)) ≤ most_bounds
unfolding told_bounds bounds_text line_text rest_text fields_text
told-short (suc n) holds b f = omega arith
told-short zero false b f = omega arith
told-short zero true b f = both_short b (f refl).0 (f refl).1

-- what `step_bounds` answers is never longer
pub bounds_short : (r : Rules) (clock end : ℕ) → length (bounds_text (bounds_of r clock end)) ≤ most_bounds
unfolding bounds_of figures most_steps least_steps
bounds_short r clock end =
    told-short (bounds_number r clock end) (spans_whole r clock end) (figures r clock end)
    (λ z.
    let o = bounds_rules r clock end refl z in
    let to = bounds_end r clock end refl z in
    (omega (arith, figure_to r clock end {length = r.shortest} o to refl refl (omega (arith, o))), omega (arith, figure_to r clock end {length = r.longest} o to refl refl (omega (arith, o)))))

-- ---- what is put of each answer

module _ {a : Bounds} where
  pub bounded_text : {b : StepBounds} → a ≡ Bounded b → bounds_text a ≡ line_text most_word (b.most ∷ b.least ∷ [])
  unfolding bounds_text
  bounded_text e = ap bounds_text e

  pub unbounded_text : a ≡ NotBounded → bounds_text a ≡ unbounded_word ++ (newline ∷ [])
  unfolding bounds_text line_text rest_text fields_text
  unbounded_text e = ap bounds_text e

  pub refused_nothing : {n at : ℕ} {room : List ℕ} → a ≡ Refused n → Wrote (bounds_text a) at room room at
  unfolding bounds_text
  refused_nothing {n} {at} {room} e =
      written_as (ap bounds_text e) (record { next = omega arith; room = sym (placed_none room at) })
