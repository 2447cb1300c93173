-- Laws of answers in slices: a slice that is stored over from end to end is what was stored; a refused call leaves what there was.
-- Assumes nothing.
use mathlib.Core.Path.{◌≡◌, refl, sym, ap, ◌∙◌}
use mathlib.Core.Bool.{Bool, true, false, ◌&&◌}
use mathlib.Core.List.{List, ◌++◌, append-nil}
use Prim.Native.Nat.{ℕ, zero, suc, ◌+◌, ◌≤◌, ◌<◌}
use native.Mathlib.Omega.{arith}
use lib.Dec.{leb}
use lib.ListN.{length, drop_of_length-le}
use lib.Seq.{sets, sets-eq}
use borrow.Author.Tests.{ne_eqb, le-leb, lt-leb}
use Rattle.reckon.specs.Tests.{pick}
use Rattle.reckon.proofs.TestLaws.{pick_true, pick_false}
use Rattle.ledger.specs.Runs.{answered}
use Rattle.ledger.specs.declared.runs.Run.{Run}
use Rattle.ledger.specs.declared.runs.Answer.{Answer}
use Rattle.ledger.specs.declared.runs.Answer.TheVariants.{Done, Refused}
use Rattle.exports.specs.Numbers.{run_numbers}
use Rattle.exports.specs.Refusals.{last_check, number_if, unless_checks, unless_refused}
use Rattle.exports.specs.Steps.{answer_number}
use Rattle.exports.specs.Inner.Slices.{answer_run}

-- ---- stores in a row

-- as many stores as the slice has numbers, one after the other from its start
pub stored : {A : Type 0} (values l : List A) → length l ≡ length values → sets l 0 values ≡ values
stored {A} values l h =
    sets-eq values l 0 (omega (arith, h))
    ∙ (ap (λ (rest : List A). values ++ rest) (drop_of_length-le l {i = 0 + length values} (omega (arith, h))) ∙ append-nil values)

-- ---- a call's number, and what its slices hold

pub sized_number : {sized : Bool} {n : ℕ} → sized ≡ true → number_if sized n ≡ n
unfolding number_if
sized_number {sized} {n} h = pick_true n 1 h

pub unsized_number : {sized : Bool} (n : ℕ) → sized ≡ false → number_if sized n ≡ 1
unfolding number_if
unsized_number n h = pick_false n 1 h

-- by a number that is not 0
pub refused_leaves : {A : Type 0} {n k : ℕ} (made old : A) → n ≡ suc k → unless_refused n made old ≡ old
unfolding unless_refused
refused_leaves {A} {n} made old h = pick_false made old (ne_eqb n 0 (λ z. omega (arith, h, z)))

-- a choice by the same test of what that test chose
pub chosen_twice : {A B : Type 0} (f : A → B) (b : Bool) (made old : A) → pick b (f (pick b made old)) (f old) ≡ f (pick b made old)
unfolding pick
chosen_twice f true made old = refl
chosen_twice f false made old = refl

-- ---- an answer with a run

pub number_answered : (n : ℕ) (u : Run) → answer_number (answered n u) ≡ n
unfolding answer_number answered
number_answered zero u = refl
number_answered (suc n) u = refl

pub run-answered : (n : ℕ) (u : Run) (old : List ℕ) → answer_run (answered n u) old ≡ unless_refused n (run_numbers u) old
unfolding answer_run answered unless_refused pick
run-answered zero u old = refl
run-answered (suc n) u old = sym (refused_leaves {k = n} (run_numbers u) old refl)

pub done_told : {a : Answer} {u : Run} (old : List ℕ) {new : List ℕ} → a ≡ Done u → new ≡ run_numbers u → (0 ≡ answer_number a) × (new ≡ answer_run a old)
unfolding answer_number answer_run
done_told old e s = (ap answer_number (sym e), s ∙ ap (λ (z : Answer). answer_run z old) (sym e))

pub refused-told : {a : Answer} {n : ℕ} (old : List ℕ) → a ≡ Refused n → (n ≡ answer_number a) × (old ≡ answer_run a old)
unfolding answer_number answer_run
refused-told old e = (ap answer_number (sym e), ap (λ (z : Answer). answer_run z old) (sym e))

-- ---- a run to an end

module _ {A : Type 0} {n : ℕ} (made old : A) where
  pub ran_made : n ≡ 0 → unless_checks n made old ≡ made
  unfolding unless_checks
  ran_made h = pick_false old made (ap (λ (k : ℕ). leb 1 k && leb k last_check) h)

  pub ran_late : last_check < n → unless_checks n made old ≡ made
  unfolding unless_checks
  ran_late h = pick_false old made (rw (le-leb 1 n (omega (arith, h)), lt-leb n last_check h))

  pub ran_early : (n ≡ 0 → ⊥) → n ≤ last_check → unless_checks n made old ≡ old
  unfolding unless_checks
  ran_early d h = pick_true old made (rw (le-leb 1 n (omega (arith, d)), le-leb n last_check h))
