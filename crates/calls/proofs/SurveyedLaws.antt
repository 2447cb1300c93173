-- What each call for the survey office promises gives what its caller has.
-- Assumes nothing.
use mathlib.Core.Path.{◌≡◌, refl, sym, ap, ◌∙◌, subst}
use mathlib.Core.List.{List}
use Prim.Native.Nat.{ℕ}
use lib.ListN.{length, take, drop}
use lib.Seq.{take_at}
use Rattle.reckon.specs.Lists.{placed}
use Rattle.reckon.specs.Tests.{pick, refusal}
use Rattle.sheet.specs.Sheet.{heading_of}
use Rattle.sheet.specs.Written.{sheet_written}
use Rattle.survey.specs.Sets.{Set, set_bad, set_says, Outcome, to_survey, all_short, from_survey}
use Rattle.survey.specs.Sets.Outcome.{moved, refused}
use Rattle.survey.specs.Moving.{Moves, MovesPart, MovesSet, part_moved, answered, room_after}
use Rattle.survey.specs.declared.moving.Part.{Part}
use Rattle.survey.specs.declared.moving.Moved.{Moved}
use Rattle.survey.specs.declared.moving.Moved.TheVariants.{Wrote, Refused}
use Rattle.survey.proofs.ReturnLaws.{returns}
use Rattle.demands.specs.Table.{FirstFails}
use Rattle.demands.specs.Surveys.{set_rows, number_of}
use Rattle.demands.proofs.Surveys.{by_rows, sets_right}
use Rattle.calls.specs.Surveyed.{AfterPart, AfterSet}

-- a text that was moved stands at the room's start
stands : {t old new : List ℕ} {a : Moved} {o : Outcome (List ℕ)} → o ≡ moved t → Moves o old a new → (a ≡ Wrote (length t)) × (take (length t) new ≡ t)
unfolding answered room_after placed
stands {t} {old} e x = (
  x.answer ∙ ap answered e,
  ap (take (length t)) (x.room ∙ ap (λ (o : Outcome (List ℕ)). room_after o old) e) ∙ take_at t (drop (length t) old) (length t) refl,
)

IsWrote : Moved → Type 0
IsWrote (Wrote n) = Unit {0}
IsWrote (Refused number line) = ⊥

left : (o : Outcome (List ℕ)) {old new : List ℕ} {a : Moved} → Moves o old a new → (number line : ℕ) → a ≡ Refused number line → new ≡ old
unfolding answered room_after IsWrote
left (moved t) x number line e = absurd (subst IsWrote (sym x.answer ∙ e) tt)
left (refused n l) x number line e = x.room

pub after_part : (s : List ℕ) (k : Part) {old new : List ℕ} {a : Moved} → MovesPart s k old a new → AfterPart s k old a new
unfolding part_moved
after_part s k x =
    record {
      moves = λ lent h r. stands (ap (part_moved k) (returns.sheet_moves s lent h r)) x;
      as_it_was = left (part_moved k (to_survey s)) x;
      there_and_back = returns;
    }

-- ---- a set moved back

outcome : (o : Outcome (List ℕ)) {old new : List ℕ} {a : Moved} → Moves o old a new → (number line : ℕ) → a ≡ Refused number line → o ≡ refused number line
unfolding answered IsWrote
outcome (moved t) x number line e = absurd (subst IsWrote (sym x.answer ∙ e) tt)
outcome (refused n l) x number line e = same (sym x.answer ∙ e)
  where
    same : {i j k m : ℕ} → Refused i j ≡ Refused k m → ◌≡◌ {A = Outcome (List ℕ)} (refused i j) (refused k m)
    same e = cc

text_of : (o : Outcome (List ℕ)) {old new : List ℕ} {a : Moved} → Moves o old a new → (n : ℕ) → a ≡ Wrote n → (number_of o ≡ 0) × ((t : List ℕ) → o ≡ moved t → take n new ≡ t)
unfolding answered IsWrote
text_of (moved t) {old} {new} x n e = (refl, λ u f. ap (λ (k : ℕ). take k new) (same (sym e ∙ x.answer) ∙ ap length (inside f)) ∙ (stands f x).1)
  where
    same : {i j : ℕ} → Wrote i ≡ Wrote j → i ≡ j
    same e = cc

    inside : {u v : List ℕ} → ◌≡◌ {A = Outcome (List ℕ)} (moved u) (moved v) → u ≡ v
    inside e = cc
text_of (refused k l) x n e = absurd (subst IsWrote (sym e ∙ x.answer) tt)

pub after-set : (t : Set) {old new : List ℕ} {a : Moved} → MovesSet t old a new → AfterSet t old a new
after-set t {old} {new} {a} x =
    record {
      returns = λ s e. stands (returns.sheet_returns s t e) x;
      refused_by = by_number;
      wrote = by_text;
    }
  where
    by_number :
        (number line : ℕ) → a ≡ Refused number line →
        FirstFails (set_rows t) number × (line ≡ pick (all_short t) (set_bad t) 0) × (new ≡ old)
    by_number number line e =
        let o : from_survey t ≡ refused number line = outcome (from_survey t) x number line e in
        let is : number_of (from_survey t) ≡ number = ap number_of o in (
          subst (FirstFails (set_rows t)) is ((sets_right.exactly_when t).refused (λ z. sets_right.never_none t line (o ∙ ap (λ (k : ℕ). refused k line) (sym is ∙ z)))),
          sets_right.its_line t number line o,
          left (from_survey t) x number line e,
        )

    by_text : (n : ℕ) → a ≡ Wrote n → (refusal (set_rows t) ≡ 0) × (take n new ≡ sheet_written (heading_of t.note) (set_says t))
    by_text n e =
        let o = text_of (from_survey t) x n e in (sym (by_rows t) ∙ o.0, o.1 _ (sets_right.moves t o.0))
