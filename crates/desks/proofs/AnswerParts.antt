-- Laws of an answer's parts: how it ends, the frame of a state, and texts one after the other.
-- Assumes nothing.
use mathlib.Core.Path.{◌≡◌, sym, ap, subst, ◌∙◌}
use mathlib.Core.List.{List}
use Prim.Native.Nat.{ℕ, ◌≤◌}
use native.Mathlib.Omega.{arith}
use lib.ListN.{length}
use borrow.Author.Tests.{eq-eqb, ne_eqb}
use Rattle.reckon.proofs.TestLaws.{pick_true, pick_false}
use Rattle.ledger.specs.Runs.{Plan}
use Rattle.ledger.specs.Account.{water}
use Rattle.text.specs.Writing.{Wrote}
use Rattle.answer.specs.Printed.{refused_text}
use Rattle.frames.specs.Frame.{frame_text}
use Rattle.frames.specs.declared.frame.Figures.{Figures}
use Rattle.hatches.specs.declared.log.Log.{Log}
use Rattle.trying.specs.declared.given.Account.{Account}
use Rattle.desks.specs.State.{kept_slots}
use Rattle.desks.specs.Lines.{done_text, ending_text, figures_of, state_text}
use Rattle.desks.specs.Inner.Lent.{most_ending, EndingPut, StatePut}

-- ---- how an answer ends

pub ending-refused : (number line : ℕ) {at : ℕ} {old new : List ℕ} {r : ℕ} → (number ≡ 0 → ⊥) → length (refused_text number line) ≤ most_ending →
    Wrote (refused_text number line) at old new r → EndingPut number line at old new r
unfolding ending_text
ending-refused number line {at} {old} {new} {r} d h w =
    let e : ending_text number line ≡ refused_text number line = pick_false _ _ (ne_eqb _ _ d) in
    record {
      wrote = subst (λ (t : List ℕ). Wrote t at old new r) (sym e) w;
      short = omega (arith, ap length e);
    }

pub ending_done : (number line : ℕ) {at : ℕ} {old new : List ℕ} {r : ℕ} → number ≡ 0 → Wrote done_text at old new r → EndingPut number line at old new r
unfolding ending_text
ending_done number line {at} {old} {new} {r} z w =
    let e : ending_text number line ≡ done_text = pick_true _ _ (eq-eqb _ _ z) in
    record {
      wrote = subst (λ (t : List ℕ). Wrote t at old new r) (sym e) w;
      short = omega (arith, ap length e);
    }

-- ---- the frame of a state

-- its figures, as they were worked
pub figures_as : (p : Plan) (log : Log) (a : Account) (depths : List ℕ) {f : Figures} {slots ground : ℕ} →
    f ≡ figures_of log a slots ground → slots ≡ kept_slots p.shape → ground ≡ water p depths → f ≡ figures_of log a (kept_slots p.shape) (water p depths)
figures_as p log a depths {ground = ground} e k g = e ∙ (ap (λ (j : ℕ). figures_of log a j ground) k ∙ ap (λ (j : ℕ). figures_of log a (kept_slots p.shape) j) g)

module _ (p : Plan) (log : Log) (a : Account) (depths : List ℕ) {f : Figures} (e : f ≡ figures_of log a (kept_slots p.shape) (water p depths)) where
  text_as : state_text p log a depths ≡ frame_text f log.litres p.shape p.marks depths
  unfolding state_text
  text_as = ap (λ (x : Figures). frame_text x log.litres p.shape p.marks depths) (sym e)

  pub state_put : {old new : List ℕ} {r : ℕ} → StatePut (frame_text f log.litres p.shape p.marks depths) old new r →
      StatePut (state_text p log a depths) old new r
  state_put {old} {new} {r} x = subst (λ (t : List ℕ). StatePut t old new r) (sym text_as) x
