-- The demands of a set that is moved back: its rows one after the other.
-- Assumes nothing.
use mathlib.Core.Path.{◌≡◌, refl, sym, ap, subst, ◌∙◌}
use mathlib.Core.Bool.{true, false}
use mathlib.Core.List.{List}
use Prim.Native.Nat.{ℕ, zero, suc}
use native.Mathlib.Omega.{arith}
use borrow.Author.Tests.{eq-eqb, ne_eqb}
use Rattle.reckon.specs.Tests.{pick, refusal}
use Rattle.reckon.proofs.TestLaws.{pick_true, pick_false, refusal_here, refusal_later}
use Rattle.checks.specs.Refusals.{check_refusals}
use Rattle.text.proofs.ReadingLaws.{by_test}
use Rattle.sheet.specs.Sheet.{checks_in, heading_of, judged}
use Rattle.sheet.specs.Written.{sheet_written}
use Rattle.survey.specs.Sets.{Set, set_bad, all_agree, set_says, set_number, Outcome, moved_out, to_survey, moved_back, all_short, set_answer, from_survey}
use Rattle.survey.specs.Sets.Outcome.{moved, refused}
use Rattle.survey.specs.Moving.{room_after}
use Rattle.demands.specs.Table.{TableSays}
use Rattle.demands.specs.Surveys.{set_rows, number_of, SetsRight}
use Rattle.demands.proofs.Table.{table_says}

-- what an answer's number and line are, where the bad line and the number are known
module _ (t : Set) where
  abbrev answer : ℕ → ℕ → Outcome (List ℕ)
  answer line number = moved_back t (judged line number (heading_of t.note))

  bad_number : (line number : ℕ) → (line ≡ 0 → ⊥) → number_of (answer line number) ≡ 12
  unfolding moved_back judged
  bad_number zero number d = absurd (d refl)
  bad_number (suc line) number d = refl

  good_number : (number : ℕ) → number_of (answer 0 number) ≡ number
  unfolding moved_back judged
  good_number zero = refl
  good_number (suc number) = refl

  -- ---- the rows

  -- 14 and then 1 to 5
  number_is : all_short t ≡ true → set_bad t ≡ 0 → set_number t ≡ refusal (set_rows t)
  unfolding set_number checks_in
  number_is short good =
      by_test (all_agree t)
      (λ e. pick_true _ _ e ∙ sym (refusal_later 12 _ short ∙ (refusal_later 12 _ (eq-eqb _ 0 good) ∙ refusal_later 14 _ e)))
      (λ e. pick_false _ _ e ∙ sym (refusal_later 12 _ short ∙ (refusal_later 12 _ (eq-eqb _ 0 good) ∙ refusal_here 14 _ e)))

  module _ (short : all_short t ≡ true) where
    moved_is : from_survey t ≡ answer (set_bad t) (set_number t)
    unfolding from_survey set_answer
    moved_is = ap (moved_back t) (pick_true _ _ short)

    by_line : (line : ℕ) → set_bad t ≡ line → number_of (from_survey t) ≡ refusal (set_rows t)
    by_line zero e =
        ap number_of moved_is
        ∙ (ap (λ (n : ℕ). number_of (answer n (set_number t))) e ∙ (good_number (set_number t) ∙ number_is short e))
    by_line (suc line) e =
        ap number_of moved_is
        ∙ (bad_number (set_bad t) (set_number t) (λ z. omega (arith, sym e ∙ z))
        ∙ sym (refusal_later 12 _ short ∙ refusal_here 12 _ (ne_eqb _ 0 (λ z. omega (arith, sym e ∙ z)))))

  long_is : all_short t ≡ false → from_survey t ≡ refused 12 0
  unfolding from_survey set_answer moved_back
  long_is e = ap (moved_back t) (pick_false _ _ e)

  pub by_rows : number_of (from_survey t) ≡ refusal (set_rows t)
  by_rows =
      by_test (all_short t) (λ e. by_line e (set_bad t) refl) (λ e. ap number_of (long_is e) ∙ sym (refusal_here 12 _ e))

  says : TableSays (set_rows t) (number_of (from_survey t))
  unfolding check_refusals
  says = subst (TableSays (set_rows t)) (sym by_rows) (table_says _ tt)

  -- ---- the line

  line_is : (bad number n line : ℕ) → answer bad number ≡ refused n line → line ≡ bad
  unfolding moved_back judged
  line_is zero zero n line e = absurd (let z : ◌≡◌ {A = ℕ} 0 1 = cc in omega arith)
  line_is zero (suc number) n line e = cc
  line_is (suc bad) number n line e = cc

  same_line : {n k l m : ℕ} → ◌≡◌ {A = Outcome (List ℕ)} (refused n l) (refused k m) → m ≡ l
  same_line e = cc

  told_line : (number line : ℕ) → from_survey t ≡ refused number line → line ≡ pick (all_short t) (set_bad t) 0
  told_line number line e =
      by_test (all_short t)
      (λ short. line_is (set_bad t) (set_number t) number line (sym (moved_is short) ∙ e) ∙ sym (pick_true (set_bad t) 0 short))
      (λ long. same_line (sym (long_is long) ∙ e) ∙ sym (pick_false (set_bad t) 0 long))

  -- ---- no refusal is by 0

  never : (bad number line : ℕ) → answer bad number ≡ refused 0 line → ⊥
  unfolding moved_back judged
  never zero zero line e = let z : ◌≡◌ {A = ℕ} 0 1 = cc in omega (arith, z)
  never zero (suc number) line e = let z : suc number ≡ 0 = ap number_of e in omega (arith, z)
  never (suc bad) number line e = let z : ◌≡◌ {A = ℕ} 12 0 = ap number_of e in omega (arith, z)

  not_none : (line : ℕ) → from_survey t ≡ refused 0 line → ⊥
  not_none line e =
      by_test (all_short t) (λ short. never (set_bad t) (set_number t) line (sym (moved_is short) ∙ e))
      (λ long. let z : ◌≡◌ {A = ℕ} 12 0 = ap number_of (sym (long_is long) ∙ e) in omega (arith, z))

  -- ---- the room, and what is moved

  stays : (o : Outcome (List ℕ)) (old : List ℕ) → (number_of o ≡ 0 → ⊥) → room_after o old ≡ old
  unfolding room_after
  stays (moved u) old d = absurd (d refl)
  stays (refused n l) old d = refl

  as_read : answer 0 0 ≡ moved (sheet_written (heading_of t.note) (set_says t))
  unfolding moved_back judged
  as_read = refl

  whole : number_of (from_survey t) ≡ 0 → from_survey t ≡ moved (sheet_written (heading_of t.note) (set_says t))
  whole e =
      by_test (all_short t) (λ short. moved_is short ∙ none (set_bad t) (set_number t) (sym (ap number_of (moved_is short)) ∙ e))
      (λ long. absurd (let z : ◌≡◌ {A = ℕ} 12 0 = sym (ap number_of (long_is long)) ∙ e in omega (arith, z)))
    where
      none : (line number : ℕ) → number_of (answer line number) ≡ 0 → answer line number ≡ moved (sheet_written (heading_of t.note) (set_says t))
      none zero zero z = as_read
      none zero (suc number) z = absurd (let y : suc number ≡ 0 = sym (good_number (suc number)) ∙ z in omega (arith, y))
      none (suc line) number z =
          absurd (let y : ◌≡◌ {A = ℕ} 12 0 = sym (bad_number (suc line) number (λ x. omega (arith, x))) ∙ z in omega (arith, y))

pub sets_right : SetsRight
unfolding to_survey moved_out
sets_right =
    record {
      exactly_when = says;
      never_none = not_none;
      its_line = told_line;
      refusals_leave = λ t old new a m d. m.room ∙ stays t (from_survey t) old d;
      moves = whole;
      sheet_refused = λ s number line e. ap (moved_out s) e;
    }
