-- Laws of a set that is refused: its length, its text, 14 and 1, each where those before it do not apply; the room stays as it was.
-- Assumes nothing.
use Rattle.text.specs.Reading.{line_from}
use Rattle.sheet.proofs.KindLaws.{run_side}
use mathlib.Core.Path.{◌≡◌, refl, sym, ap, ◌∙◌}
use mathlib.Core.Bool.{Bool, true, false}
use mathlib.Core.List.{List, [], ◌∷◌}
use Prim.Native.Nat.{ℕ, zero, suc}
use native.Mathlib.Omega.{arith}
use Rattle.reckon.specs.Tests.{every}
use Rattle.reckon.specs.Ranges.{side_fine}
use Rattle.reckon.proofs.TestLaws.{pick_true, pick_false, refusal_here, not_both}
use Rattle.grid.specs.Squares.{shape_fine}
use Rattle.checks.specs.Refusals.{check_refusals}
use Rattle.sheet.specs.Sheet.{line_one, shape_of, checks_in, heading_of, judged}
use Rattle.sheet.specs.declared.reading.Heading.{Heading}
use Rattle.sheet.specs.declared.reading.Sheet.{Sheet}
use Rattle.sheet.specs.declared.reading.Sheet.TheVariants as sheet
use Rattle.survey.specs.Sets.{Set, set_bad, all_agree, set_number, moved_back, all_short, set_answer, from_survey}
use Rattle.survey.specs.Moving.{answered, room_after, MovesSet}
use Rattle.survey.specs.declared.moving.Moved.TheVariants as Moved-as

judged_line : (line number : ℕ) (h : Heading) → (line ≡ 0 → ⊥) → judged line number h ≡ sheet.Refused 12 line
unfolding judged
judged_line zero number h d = absurd (d refl)
judged_line (suc line) number h d = refl

judged_number : (number : ℕ) (h : Heading) → (number ≡ 0 → ⊥) → judged 0 number h ≡ sheet.Refused number 0
unfolding judged
judged_number zero h d = absurd (d refl)
judged_number (suc number) h d = refl

two_fail : (a b : Bool) (bs : List Bool) → every (a ∷ b ∷ []) ≡ false → every (a ∷ b ∷ bs) ≡ false
unfolding every
two_fail true true bs e = not_both {b = true} refl e
two_fail true false bs e = refl
two_fail false b bs e = refl

module _ (t : Set) (old : List ℕ) where
  answer_refused : {number line : ℕ} → set_answer t ≡ sheet.Refused number line → MovesSet t old (Moved-as.Refused number line) old
  unfolding from_survey moved_back answered room_after
  answer_refused e =
      record {
        answer = sym (ap (λ (a : Sheet). answered (moved_back t a)) e);
        room = sym (ap (λ (a : Sheet). room_after (moved_back t a) old) e);
      }

  long_answer : all_short t ≡ false → set_answer t ≡ sheet.Refused 12 0
  unfolding set_answer
  long_answer e = pick_false _ _ e

  pub too_long : all_short t ≡ false → MovesSet t old (Moved-as.Refused 12 0) old
  too_long e = answer_refused (long_answer e)

  module _ (short : all_short t ≡ true) where
    judged_is : set_answer t ≡ judged (set_bad t) (set_number t) (heading_of t.note)
    unfolding set_answer
    judged_is = pick_true _ _ short

    pub text_bad : {line : ℕ} → line ≡ set_bad t → (line ≡ 0 → ⊥) → MovesSet t old (Moved-as.Refused 12 line) old
    text_bad {line} e d =
        answer_refused
        (judged_is
        ∙ (ap (λ (n : ℕ). judged n (set_number t) (heading_of t.note)) (sym e) ∙ judged_line line (set_number t) (heading_of t.note) d))

    module _ (good : set_bad t ≡ 0) where
      number_refused : {number : ℕ} → set_number t ≡ number → (number ≡ 0 → ⊥) → MovesSet t old (Moved-as.Refused number 0) old
      number_refused {number} e d =
          answer_refused
          (judged_is
          ∙ (ap (λ (n : ℕ). judged n (set_number t) (heading_of t.note)) good
          ∙ (ap (λ (n : ℕ). judged 0 n (heading_of t.note)) e ∙ judged_number number (heading_of t.note) d)))

      fourteen : all_agree t ≡ false → set_number t ≡ 14
      unfolding set_number
      fourteen e = pick_false _ _ e

      pub disagree : all_agree t ≡ false → MovesSet t old (Moved-as.Refused 14 0) old
      disagree e = number_refused (fourteen e) (λ z. omega (arith, z))

      module _ (agree : all_agree t ≡ true) (bad : every (shape_fine (shape_of t.note) ∷ side_fine (line_one t.note).side ∷ []) ≡ false) where
        one : set_number t ≡ 1
        unfolding set_number checks_in check_refusals
        one =
            pick_true _ _ agree
            ∙ refusal_here 1 _
            (two_fail _ _ _
            (ap (λ (D : ℕ). every (shape_fine (shape_of t.note) ∷ side_fine D ∷ [])) (run_side t.note (line_from t.note 0 1) (line_one t.note).side)
            ∙ bad))

        pub shape_bad : MovesSet t old (Moved-as.Refused 1 0) old
        shape_bad = number_refused one (λ z. omega (arith, z))
