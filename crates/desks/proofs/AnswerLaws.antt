-- Laws of the desk's answers: what was put is what the desk tells, and what each line comes to is what its definition says.
-- Assumes nothing.
use mathlib.Core.Path.{◌≡◌, refl, sym, ap, subst, ◌∙◌}
use mathlib.Core.Bool.{Bool, true, false, not}
use mathlib.Core.List.{List, [], ◌∷◌, ◌++◌}
use Prim.Native.Nat.{ℕ, ◌≤◌}
use native.Mathlib.Omega.{arith}
use lib.Dec.{eqb}
use lib.ListN.{length, length-append}
use borrow.Author.Tests.{eq-eqb, ne_eqb, leb-true, not-true, not-false}
use Rattle.reckon.specs.Tests.{every, refusal}
use Rattle.reckon.proofs.TestLaws.{not_both, and_true, pick_true, pick_false, every_each}
use Rattle.ledger.specs.Runs.{Plan}
use Rattle.checks.specs.Given.{Given}
use Rattle.text.specs.Writing.{Wrote}
use Rattle.text.proofs.WritingLaws.{placed_none, wrote_both}
use Rattle.hatches.specs.Log.{Evening, evening}
use Rattle.hatches.specs.declared.log.Log.{Log}
use Rattle.trying.specs.Lines.{Came, came, step_came, back_came, TrialLent}
use Rattle.trying.specs.declared.given.Account.{Account}
use Rattle.trying.specs.declared.lines.Tried.{Tried}
use Rattle.desks.specs.State.{desk_out, kept_slots, no_series, desk_with}
use Rattle.desks.specs.Lines.{Told, told, plainly, shown, ending_text, state_text, back_told, step_refusals, step_told, last_told, one_less, made_told, steps_left, next_told}
use Rattle.desks.specs.Inner.Lent.{Shows, Lends, StatePut, EndingPut, DeskTold, Answers}
use Rattle.desks.specs.declared.state.Desk.{Desk}
use Rattle.desks.specs.declared.state.Series.{Series}

-- ---- what is lent

-- other water on as many squares
pub shows_on : {p : Plan} {depths after out : List ℕ} → Shows p depths out → length after ≡ length depths → Shows p after out
shows_on s e = record { fine = s.fine; marks_long = s.marks_long; depths_long = e ∙ s.depths_long; out_long = s.out_long }

-- a step and a take-back ask for no more than a line is lent
pub trial_lent : {p : Plan} {depths lasts records began out : List ℕ} → Lends p depths lasts records began out → TrialLent p records began
unfolding kept_slots
trial_lent h =
    record {
      fine = h.shows.fine;
      marks_long = h.shows.marks_long;
      slots_few = omega (arith, h.slots_are);
      rates_suffice = omega (arith, h.slots_are, h.rates_are);
    }

-- ---- what was put is what the desk tells

module _ (d : Desk) (log : Log) (a : Account) (s : Series) {r : Desk} where
  pub text_told : {t old new : List ℕ} {k : ℕ} → r ≡ desk_with d log a s k → Wrote t 0 old new k → length t ≤ desk_out → DeskTold d log a s t old new r
  text_told {t} {k = k} e w h =
      let n : k ≡ length t = omega (arith, w.next) in
      record {
        desk_is = e ∙ ap (λ (j : ℕ). desk_with d log a s j) n;
        puts = record { wrote = record { next = omega arith; room = w.room }; fits = h };
      }

  -- nothing was put
  pub nothing_told : {old : List ℕ} → r ≡ desk_with d log a s 0 → DeskTold d log a s [] old old r
  nothing_told {old} e = text_told {t = []} e (record { next = omega arith; room = sym (placed_none old 0) }) (omega arith)

  module _ {s' : Series} (q : s' ≡ s) where
    with_series : {k : ℕ} → r ≡ desk_with d log a s' k → r ≡ desk_with d log a s k
    with_series {k} e = e ∙ ap (λ (x : Series). desk_with d log a x k) q

    pub ending-told : {number line k : ℕ} {old new : List ℕ} → EndingPut number line 0 old new k → r ≡ desk_with d log a s' k →
        DeskTold d log a s (ending_text number line) old new r
    ending-told x e = text_told (with_series e) x.wrote (omega (arith, x.short))

    pub state_told : {t old new : List ℕ} {k : ℕ} → StatePut t old new k → r ≡ desk_with d log a s' k → DeskTold d log a s t old new r
    state_told x e = text_told (with_series e) x.wrote (omega (arith, x.short))

    -- a frame and the end of the answer after it
    pub shown-told : {t old mid new : List ℕ} {number line at k : ℕ} → length old ≡ desk_out → StatePut t old mid at → EndingPut number line at mid new k →
        r ≡ desk_with d log a s' k → DeskTold d log a s (t ++ ending_text number line) old new r
    shown-told {t} {number = number} {line} o x y e =
        text_told (with_series e) (wrote_both (omega (arith, o, x.short, y.short)) x.wrote y.wrote)
        (omega (arith, length-append t (ending_text number line), x.short, y.short))

-- ---- an answer, from its parts

module _ {d r : Desk} {log : Log} {a : Account} {s : Series} (depths lasts records began : List ℕ) {old new : List ℕ} where
  pub answers_of : {t : List ℕ} → DeskTold d log a s t old new r →
      Answers (told (evening depths lasts records began log) a s t) d r (evening depths lasts records began r.log) old new
  answers_of x =
      record {
        desk_is = x.desk_is;
        evening_is = ap (λ (k : Desk). evening depths lasts records began k.log) x.desk_is;
        puts = x.puts;
      }

-- the same under another name
pub answers_as : {t u : Told} {d r : Desk} {after : Evening} {old new : List ℕ} → t ≡ u → Answers t d r after old new → Answers u d r after old new
answers_as {d = d} {r} {after} {old} {new} e x = subst (λ (v : Told). Answers v d r after old new) e x

-- ---- `back`

module _
    (p : Plan) (e : Evening) (a : Account) (count : ℕ) (t : Tried) {depths lasts records began : List ℕ}
    (h : came t.number (evening depths lasts records began t.log) t.account ≡ back_came p e a count) where
  number_back : (back_came p e a count).number ≡ t.number
  number_back = sym (ap (λ (c : Came). c.number) h)

  pub back_refused : {d r : Desk} {old new : List ℕ} → (t.number ≡ 0 → ⊥) → DeskTold d t.log t.account no_series (ending_text t.number 0) old new r →
      Answers (back_told p e a count) d r (evening depths lasts records began r.log) old new
  unfolding back_told
  back_refused n x =
      answers_as (ap (λ (c : Came). plainly c) h ∙ sym (pick_false _ _ (ne_eqb _ _ (λ z. n (sym number_back ∙ z)))))
      (answers_of depths lasts records began x)

  pub back_shown : {d r : Desk} {old new : List ℕ} → t.number ≡ 0 → DeskTold d t.log t.account no_series (state_text p t.log t.account depths ++ ending_text t.number 0) old new r →
      Answers (back_told p e a count) d r (evening depths lasts records began r.log) old new
  unfolding back_told
  back_shown z x =
      answers_as (ap (λ (c : Came). shown p c) h ∙ sym (pick_true _ _ (eq-eqb _ _ (number_back ∙ z))))
      (answers_of depths lasts records began x)

-- ---- `step`

module _ (d : Desk) (count end every' : ℕ) (p : Plan) (depths lasts records began : List ℕ) where
  abbrev before : Evening
  before = evening depths lasts records began d.log

  pub step-refused : (n : ℕ) {r : Desk} {old new : List ℕ} → refusal (step_refusals p before d.account count end every') ≡ n → (n ≡ 0 → ⊥) →
      DeskTold d d.log d.account no_series (ending_text n 0) old new r →
      Answers (step_told p before d.account count end every') d r (evening depths lasts records began r.log) old new
  unfolding step_told
  step-refused n e z x =
      answers_as
      (ap (λ (k : ℕ). told before d.account no_series (ending_text k 0)) (sym e) ∙ sym (pick_false _ _ (ne_eqb _ _ (λ y. z (sym e ∙ y)))))
      (answers_of depths lasts records began x)

  pub step-begun : {r : Desk} {old : List ℕ} → refusal (step_refusals p before d.account count end every') ≡ 0 →
      r ≡ desk_with d d.log d.account (record { on = true; left = count; end = end; every = eqb every' 1 }) 0 →
      Answers (step_told p before d.account count end every') d r (evening depths lasts records began r.log) old old
  unfolding step_told
  step-begun e x =
      answers_as (sym (pick_true _ _ (eq-eqb _ _ e)))
      (answers_of depths lasts records began
      (nothing_told d d.log d.account (record { on = true; left = count; end = end; every = eqb every' 1 }) x))

-- ---- the steps of a line `step`

-- the first test holds, so the second decides
pub both_hold : (a b : Bool) → a ≡ true → b ≡ every (a ∷ b ∷ [])
unfolding every
both_hold true b e = sym (and_true b)
both_hold false b e = not_both e refl

pub some_left : (s : Series) (clock : ℕ) → steps_left s clock ≡ true → 1 ≤ s.left
unfolding steps_left
some_left s clock e = leb-true _ _ (every_each _ e).0

module _ (t : Tried) (p : Plan) (depths lasts records began : List ℕ) where
  abbrev came_to : Came
  came_to = came t.number (evening depths lasts records began t.log) t.account

  -- its end
  module _ (every' : Bool) {d r : Desk} {old new : List ℕ} where
    pub last-tried : every' ≡ true → DeskTold d t.log t.account no_series (ending_text t.number 0) old new r →
        Answers (last_told p every' came_to) d r (evening depths lasts records began r.log) old new
    last-tried e x = answers_as (sym (pick_true (plainly came_to) (shown p came_to) e)) (answers_of depths lasts records began x)

    pub last-shown : every' ≡ false →
        DeskTold d t.log t.account no_series (state_text p t.log t.account depths ++ ending_text t.number 0) old new r →
        Answers (last_told p every' came_to) d r (evening depths lasts records began r.log) old new
    last-shown e x = answers_as (sym (pick_false (plainly came_to) (shown p came_to) e)) (answers_of depths lasts records began x)

  -- a step that was made: its frame, where each is shown
  abbrev frame : List ℕ
  frame = state_text p t.log t.account depths

  module _ (d : Desk) (s : Series) {s' : Series} (q : s' ≡ one_less s) {r : Desk} where
    pub made_unshown : {old : List ℕ} → not s.every ≡ true → r ≡ desk_with d t.log t.account s' 0 →
        Answers (made_told p s came_to) d r (evening depths lasts records began r.log) old old
    made_unshown n e =
        answers_as (ap (λ (x : List ℕ). told (evening depths lasts records began t.log) t.account (one_less s) x) (sym (pick_false frame [] (not-true _ n))))
        (answers_of depths lasts records began
        (nothing_told d t.log t.account (one_less s) (with_series d t.log t.account (one_less s) q e)))

    pub made_shown : {k : ℕ} {old new : List ℕ} → not s.every ≡ false → StatePut frame old new k → r ≡ desk_with d t.log t.account s' k →
        Answers (made_told p s came_to) d r (evening depths lasts records began r.log) old new
    made_shown n x e =
        answers_as (ap (λ (y : List ℕ). told (evening depths lasts records began t.log) t.account (one_less s) y) (sym (pick_true frame [] (not-false _ n))))
        (answers_of depths lasts records began (state_told d t.log t.account (one_less s) q x e))

-- the next one, or the end
module _ (p : Plan) (g : Given) (e : Evening) (a : Account) (s : Series) where
  pub next_none : {d r : Desk} {after : Evening} {old new : List ℕ} → steps_left s e.log.run.clock ≡ false → Answers (last_told p s.every (came 0 e a)) d r after old new →
      Answers (next_told p g e a s) d r after old new
  unfolding next_told
  next_none n x = answers_as (sym (pick_false _ _ n)) x

  module _ (l : steps_left s e.log.run.clock ≡ true) {c : Came} (h : c ≡ step_came p g e a) where
    number_next : (step_came p g e a).number ≡ c.number
    number_next = sym (ap (λ (x : Came). x.number) h)

    pub next_refused : {d r : Desk} {after : Evening} {old new : List ℕ} → (c.number ≡ 0 → ⊥) → Answers (last_told p s.every c) d r after old new → Answers (next_told p g e a s) d r after old new
    unfolding next_told
    next_refused n x =
        answers_as
        (ap (λ (y : Came). last_told p s.every y) h
        ∙ (sym (pick_false _ _ (ne_eqb _ _ (λ z. n (sym number_next ∙ z)))) ∙ sym (pick_true _ _ l)))
        x

    pub next_made : {d r : Desk} {after : Evening} {old new : List ℕ} → c.number ≡ 0 → Answers (made_told p s c) d r after old new → Answers (next_told p g e a s) d r after old new
    unfolding next_told
    next_made z x =
        answers_as
        (ap (λ (y : Came). made_told p s y) h ∙ (sym (pick_true _ _ (eq-eqb _ _ (number_next ∙ z))) ∙ sym (pick_true _ _ l)))
        x
