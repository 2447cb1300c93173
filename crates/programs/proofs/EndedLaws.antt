-- Laws of what is printed of a run: it fits the room for its squares, and is its world or its refusal.
-- Assumes nothing.
use mathlib.Core.Path.{◌≡◌, sym, subst}
use mathlib.Core.List.{List}
use Prim.Native.Nat.{ℕ, ◌^◌, ◌≤◌, ◌<◌}
use native.Mathlib.Omega.{arith}
use lib.ListN.{length, get_or}
use lib.Seq.{length-take-le}
use borrow.Author.Tests.{eq-eqb, ne_eqb}
use Rattle.reckon.proofs.TestLaws.{pick_true, pick_false, pick_both}
use Rattle.grid.specs.Squares.{squares, most_squares}
use Rattle.ledger.specs.Runs.{Plan}
use Rattle.flood.specs.declared.run.Ran.{Ran}
use Rattle.text.specs.Writing.{Wrote}
use Rattle.text.proofs.WritingLaws.{wrote_length}
use Rattle.answer.specs.Printed.{refused_text, made_text}
use Rattle.answer.proofs.PrintLaws.{refused-short, made_short}
use Rattle.programs.specs.Program.{bytes_for, most_printed, ended_text, ran_text, PutRan, Prints}

-- the numbers of a run's answer fit their words
pub record Words (depths : List ℕ) (a : Ran) : Type 0 where
  pub depths_are : (i : ℕ) → get_or depths i 0 < 2 ^ 32
  pub number_is : a.refused < 2 ^ 64
  pub steps_are : a.steps < 2 ^ 64
  pub outflow_is : a.run.outflow < 2 ^ 64
  pub soaked_is : a.run.soaked < 2 ^ 64
  pub clock_is : a.run.clock < 2 ^ 64

module _ (p : Plan) (depths : List ℕ) (a : Ran) (few : squares p.shape ≤ most_squares) (w : Words depths a) where
  pub made_fits : length (made_text p depths a.run a.steps) ≤ bytes_for (squares p.shape)
  made_fits =
      omega (arith, made_short p depths a.run a.steps few w.depths_are w.outflow_is w.soaked_is w.steps_are w.clock_is)

  ran_fits : length (ran_text p depths a) ≤ bytes_for (squares p.shape)
  unfolding ended_text
  ran_fits =
      pick_both (λ (t : List ℕ). length t ≤ bytes_for (squares p.shape)) _ made_fits
      (omega (arith, refused-short a.refused 0 w.number_is (omega arith)))

  pub ran-refused :
      {at : ℕ} {old new : List ℕ} {r : ℕ} → (a.refused ≡ 0 → ⊥) → Wrote (refused_text a.refused 0) at old new r → PutRan p depths a at old new r
  unfolding ended_text
  ran-refused {at} {old} {new} {r} d v =
      record { wrote = subst (λ (t : List ℕ). Wrote t at old new r) (sym (pick_false _ _ (ne_eqb _ _ d))) v; fits = ran_fits }

  pub ran_made :
      {at : ℕ} {old new : List ℕ} {r : ℕ} → a.refused ≡ 0 → Wrote (made_text p depths a.run a.steps) at old new r →
      PutRan p depths a at old new r
  unfolding ended_text
  ran_made {at} {old} {new} {r} z v =
      record { wrote = subst (λ (t : List ℕ). Wrote t at old new r) (sym (pick_true _ _ (eq-eqb _ _ z))) v; fits = ran_fits }

-- ---- a text that is printed

pub prints : {t old new : List ℕ} {r : ℕ} → most_printed ≤ length old → length t ≤ most_printed → Wrote t 0 old new r → Prints t old new r
prints {t} {old} {new} {r} h g w =
    let within : r ≤ length new = omega (arith, h, g, w.next, wrote_length (omega (arith, h, g)) w) in
    record { wrote = w; fits = g; within = within; counted = sym (length-take-le r new within) }

pub refused_printed :
    {number line : ℕ} {old new : List ℕ} {r : ℕ} → most_printed ≤ length old → number < 2 ^ 64 → line < 2 ^ 64 →
    Wrote (refused_text number line) 0 old new r → Prints (refused_text number line) old new r
refused_printed {number} {line} l h g w = prints l (omega (arith, refused-short number line h g)) w
