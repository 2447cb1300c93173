-- Laws of a trial's lines: what a step that was made says of its table and of the ring, and what each line comes to.
-- Assumes nothing.
use mathlib.Core.Path.{◌≡◌, refl, sym, ap, subst, ◌∙◌}
use mathlib.Core.Bool.{Bool, true, false}
use mathlib.Core.List.{List}
use Prim.Native.Nat.{ℕ, zero, suc, ◌+◌, ◌-◌, ◌≤◌, ◌<◌}
use native.Mathlib.Omega.{arith}
use lib.Dec.{eqb, leb}
use lib.ListN.{length, take, replicate, length-append, length-replicate}
use lib.Seq.{length-take-le}
use borrow.Author.Tests.{eqb-true, eqb-false, eq-eqb, ne_eqb, le-leb, leb-true, lt-leb}
use Rattle.reckon.specs.Tests.{pick, refusal, Row}
use Rattle.reckon.specs.Ranges.{last_clock}
use Rattle.reckon.specs.Tables.{inflow_kind, table_room}
use Rattle.reckon.proofs.TestLaws.{pick_true, pick_false, every_each, refusal_passed}
use Rattle.trials.specs.Ring.{slot_after, slot_ago}
use Rattle.trials.proofs.RingLaws.{fine_ring}
use Rattle.ledger.specs.Runs.{Plan, World, seen_of}
use Rattle.ledger.specs.Record.{room_slots, ring_of}
use Rattle.ledger.specs.declared.runs.Run.{Run}
use Rattle.ledger.specs.declared.runs.Answer.{Answer}
use Rattle.ledger.specs.declared.runs.Answer.TheVariants.{Done, Refused}
use Rattle.checks.specs.Given.{Given, given}
use Rattle.checks.specs.Inner.Ready.{Ready}
use Rattle.checks.proofs.CheckLaws.{ring_is, ready}
use Rattle.adding.specs.Added.{added_for}
use Rattle.adding.specs.Account.{tables_give}
use Rattle.adding.specs.Inner.Added.{Between, tables}
use Rattle.flood.specs.Step.{step_number, stepped, Steps, Passes}
use Rattle.flood.proofs.RunToLaws.{checks_passed, still_valid, clock_on}
use Rattle.hatches.specs.Log.{Evening, evening, most_hatches, is_named, hatch_rows, table_with, log_with, rates_kept, kept_fine}
use Rattle.text.specs.Writing.{Wrote}
use Rattle.text.proofs.ReadingLaws.{by_test}
use Rattle.hatches.proofs.RowLaws.{table_is, table_next, table-room}
use Rattle.hatches.proofs.RefusalLaws.{standing_is, table_judged_as}
use Rattle.evenings.specs.Taking.{world_of, after_back}
use Rattle.evenings.proofs.BackLaws.{done_is, refused_is, backs_few}
use Rattle.hatches.specs.declared.lines.Entry.TheVariants.{Back}
use Rattle.hatches.specs.declared.log.Hatches.{Hatches}
use Rattle.hatches.specs.declared.log.Log.{Log}
use Rattle.stands.specs.Laying.{most_given}
use Rattle.trying.specs.Given.{account_with, account_back}
use Rattle.trying.specs.Lines.{Came, came, tried, unless_refused, try_refusals, back_refusals, given_back, nothing_given, backs, step_given, evening_next, account_next, step_came, back_came, MakesOne, GoesBack}
use Rattle.trying.specs.Inner.Passing.{StepPasses}
use Rattle.trying.specs.declared.given.Account.{Account}
use Rattle.trying.specs.declared.lines.Tried.{Tried}

-- ---- a step that was made

module _ (p : Plan) (g : Given) (w : World) (made : step_number p g w ≡ 0) where
  ready_before : Ready p g (seen_of w)
  ready_before = ready p g (ring_of p w) (seen_of w) (checks_passed p g w made)

  pub made_newest : w.run.newest < room_slots p w.records
  made_newest = (fine_ring _ _ _ (ring_is p g (ring_of p w) (seen_of w) (checks_passed p g w made))).newest_below

  pub made_clock : w.run.clock ≤ last_clock
  made_clock = ready_before.clock_to

  -- its table and its clocks are in range
  pub made_between : Between p (tables g.lie.rules g.rain g.inflow) w.run.clock (stepped p g w).run.clock
  made_between =
      let v = still_valid p g w (checks_passed p g w made) made in
      let t = ready_before.waters in
      let on = clock_on p g w (checks_passed p g w made) made in
      record {
        waters = record {
          fine = t.fine;
          marks_long = t.marks_long;
          rules = t.rules;
          rain = t.rain;
          inflow = t.inflow;
          inflow_squares = t.inflow_squares;
        };
        ordered = omega arith;
        end_to = (ready p g (ring_of p (stepped p g w)) (seen_of (stepped p g w)) v).clock_to;
      }

  -- what the tables give does not depend on the ground
  pub tables_same : (start end : ℕ) → tables_give p (tables g.lie.rules g.rain g.inflow) start end ≡ tables_give p g start end
  unfolding tables_give added_for
  tables_same start end = refl

-- ---- lines that change the log alone

module _ (rows : List Row) (log : Log) (a : Account) (after : Log) where
  pub unless-refused : {t : Tried} {k : ℕ} → t ≡ tried k log a → refusal rows ≡ k → (k ≡ 0 → ⊥) → t ≡ unless_refused rows log a after
  unless-refused h e d = h ∙ (ap (λ (j : ℕ). tried j log a) (sym e) ∙ sym (pick_false _ _ (ne_eqb _ _ (λ y. d (sym e ∙ y)))))

  pub unless_none : {l : Log} → l ≡ after → refusal rows ≡ 0 → tried 0 l a ≡ unless_refused rows log a after
  unless_none h e = ap (λ (x : Log). tried 0 x a) h ∙ sym (pick_true _ _ (eq-eqb _ _ e))

-- ---- lines that are not refused before their steps

-- whether the table fits, as it is counted
pub table_fits_as : (inflow : List ℕ) (log : Log) {n : ℕ} → length inflow ≡ n → {r : Bool} →
    ((litres : List ℕ) → r ≡ leb (n + length (hatch_rows log.hatches litres) + 0) (table_room inflow_kind)) →
    r ≡ leb (length (table_with inflow log.hatches log.litres)) (table_room inflow_kind)
table_fits_as inflow log h f =
    sym (table_judged_as inflow log (f log.litres ∙ ap (λ (k : ℕ). leb (k + length (hatch_rows log.hatches log.litres) + 0) (table_room inflow_kind)) (sym h)))

pub kept_enough : (log : Log) (count : ℕ) → count ≤ log.run.kept → kept_fine log (Back count) ≡ true
unfolding kept_fine
kept_enough log count h = le-leb _ _ h

pub kept-short : (log : Log) (count : ℕ) → log.run.kept < count → kept_fine log (Back count) ≡ false
unfolding kept_fine
kept-short log count h = lt-leb _ _ h

-- a number that a hatch may have
pub named_number : (hs : Hatches) (n : ℕ) → is_named hs n ≡ true → (1 ≤ n) × (n ≤ most_hatches)
unfolding is_named
named_number hs n e = let t = every_each _ e in (leb-true _ _ t.0, leb-true _ _ t.1.0)

module _ (inflow : List ℕ) (log : Log) (a : Account) (z : refusal (try_refusals inflow log a) ≡ 0) where
  pub try_fits : length inflow + length (hatch_rows log.hatches log.litres) ≤ table_room inflow_kind
  unfolding try_refusals
  try_fits =
      let fits : length (table_with inflow log.hatches log.litres) ≤ table_room inflow_kind = leb-true _ _ (refusal_passed _ tt z).0 in
      omega (arith, length-append inflow (hatch_rows log.hatches log.litres))

  pub try_steps : log.steps ≤ log.run.clock
  unfolding try_refusals
  try_steps = (standing_is log (refusal_passed _ tt z).1.0).1

  pub try_given : a.given ≤ most_given
  unfolding try_refusals
  try_given = leb-true _ _ (refusal_passed _ tt z).1.1.0

-- ---- what a step comes to

-- a step with no number was made
module _ (t n : ℕ) (e after : Evening) (a account : Account) where
  abbrev comes : Came
  comes = pick (eqb t 0) (pick (eqb n 0) (came 0 after account) (came n e a)) (came t e a)

  comes_made : comes.number ≡ 0 → (n ≡ 0) × (comes ≡ came 0 after account)
  comes_made h = by_test (eqb t 0) (λ q. by_test (eqb n 0) (λ r. made q r) (λ r. late q r)) early
    where
      made : eqb t 0 ≡ true → eqb n 0 ≡ true → (n ≡ 0) × (comes ≡ came 0 after account)
      made q r = (eqb-true n 0 r, pick_true _ _ q ∙ pick_true _ _ r)

      late : eqb t 0 ≡ true → eqb n 0 ≡ false → (n ≡ 0) × (comes ≡ came 0 after account)
      late q r = absurd (eqb-false n 0 r (sym (ap (λ (c : Came). c.number) (pick_true _ _ q ∙ pick_false _ _ r)) ∙ h))

      early : eqb t 0 ≡ false → (n ≡ 0) × (comes ≡ came 0 after account)
      early q = absurd (eqb-false t 0 q (sym (ap (λ (c : Came). c.number) (pick_false _ _ q)) ∙ h))

-- the evening with another log
abbrev with-log : Evening → Log → Evening
with-log e log = evening e.depths e.lasts e.records e.began log

module _ (p : Plan) (g : Given) (e : Evening) (a : Account) where
  as_refused : {t : Tried} {n : ℕ} → t ≡ tried n e.log a → came t.number (with-log e t.log) t.account ≡ came n e a
  as_refused h = ap (λ (u : Tried). came u.number (with-log e u.log) u.account) h

  -- the evening and the account are those after the step
  pub step-came :
      (step_came p g e a).number ≡ 0 → (step_number p (step_given p g e a) (world_of e) ≡ 0) × (step_came p g e a ≡ came 0 (evening_next p g e a) (account_next p g e a))
  unfolding step_came
  step-came h =
      comes_made (refusal (try_refusals g.inflow e.log a)) (step_number p (step_given p g e a) (world_of e)) e (evening_next p g e a) a (account_next p g e a) h

  pub step_unfit : {t : Tried} {n : ℕ} → t ≡ tried n e.log a → n ≡ refusal (try_refusals g.inflow e.log a) → (n ≡ 0 → ⊥) →
      MakesOne p g e a t.number (with-log e t.log) t.account
  unfolding step_came
  step_unfit x h d = as_refused x ∙ (ap (λ (k : ℕ). came k e a) h ∙ sym (pick_false _ _ (ne_eqb _ _ (λ y. d (h ∙ y)))))

  module _ {n : ℕ} (h : n ≡ refusal (try_refusals g.inflow e.log a)) (z : n ≡ 0) where
    tried_none : eqb (refusal (try_refusals g.inflow e.log a)) 0 ≡ true
    tried_none = eq-eqb _ _ (sym h ∙ z)

    module _ {answer : Answer} {depths lasts records : List ℕ} (s : Steps p (step_given p g e a) (world_of e) answer depths lasts records) where
      number_is : {k : ℕ} → answer ≡ Refused k → (k ≡ step_number p (step_given p g e a) (world_of e)) × (step_number p (step_given p g e a) (world_of e) ≡ 0 → ⊥)
      number_is {k} x = refused_is _ k _ (sym x ∙ s.answer)

      stays : (step_number p (step_given p g e a) (world_of e) ≡ 0 → ⊥) → stepped p (step_given p g e a) (world_of e) ≡ world_of e
      unfolding stepped
      stays d = pick_false _ _ (ne_eqb _ _ d)

      pub step-refused : {k : ℕ} → answer ≡ Refused k → {t : Tried} → t ≡ tried k e.log a →
          MakesOne p g e a t.number (evening depths lasts records e.began t.log) t.account
      unfolding step_came
      step-refused {k} x {t} h =
          let y = number_is x in
          let w = stays y.1 in
          ap (λ (u : Tried). came u.number (evening depths lasts records e.began u.log) u.account) h
          ∙ (ap (λ (d : List ℕ). came k (evening d lasts records e.began e.log) a) (s.depths_are ∙ ap (λ (v : World). v.depths) w)
          ∙ (ap (λ (l : List ℕ). came k (evening e.depths l records e.began e.log) a) (s.lasts_are ∙ ap (λ (v : World). v.lasts) w)
          ∙ (ap (λ (c : List ℕ). came k (evening e.depths e.lasts c e.began e.log) a) (s.records_are ∙ ap (λ (v : World). v.records) w)
          ∙ (ap (λ (j : ℕ). came j e a) y.0 ∙ (sym (pick_false _ _ (ne_eqb _ _ y.1)) ∙ sym (pick_true _ _ tried_none))))))

      -- a step that was made, as its answer tells it
      pub step_made : {run : Run} → answer ≡ Done run → (run ≡ (stepped p (step_given p g e a) (world_of e)).run) × (step_number p (step_given p g e a) (world_of e) ≡ 0)
      step_made {run} x = let y = done_is _ _ run (sym x ∙ s.answer) in (y.0, sym y.1)

      pub step_done :
          {run : Run} → answer ≡ Done run → {t : Tried} {began : List ℕ} {slots : ℕ} → slots ≡ room_slots p e.records →
          (t ≡ tried 0 (log_with e.log run (e.log.steps + 1) e.log.litres) (account_with a (slot_after slots e.log.run.newest) (tables_give p (step_given p g e a) e.log.run.clock run.clock))) ×
          (began ≡ rates_kept slots 1 e.log.run.newest e.log.litres e.began) →
          MakesOne p g e a t.number (evening depths lasts records began t.log) t.account
      unfolding step_came
      step_done {run} x {t} {began} {slots} k y =
          let m = step_made x in
          ap (λ (u : Tried). came u.number (evening depths lasts records began u.log) u.account) y.0
          ∙ (ap (λ (b : List ℕ). at slots b run depths lasts records) y.1
          ∙ (ap (λ (j : ℕ). at j (rates_kept j 1 e.log.run.newest e.log.litres e.began) run depths lasts records) k
          ∙ (ap (λ (u : Run). at K B u depths lasts records) m.0
          ∙ (ap (λ (d : List ℕ). at K B W.run d lasts records) s.depths_are
          ∙ (ap (λ (l : List ℕ). at K B W.run W.depths l records) s.lasts_are
          ∙ (ap (λ (c : List ℕ). at K B W.run W.depths W.lasts c) s.records_are
          ∙ (sym (pick_true _ _ (eq-eqb _ _ m.1)) ∙ sym (pick_true _ _ tried_none))))))))
        where
          W : World
          W = stepped p (step_given p g e a) (world_of e)

          K : ℕ
          K = room_slots p e.records

          B : List ℕ
          B = rates_kept K 1 e.log.run.newest e.log.litres e.began

          at : ℕ → List ℕ → Run → List ℕ → List ℕ → List ℕ → Came
          at k b u d l c =
              came 0 (evening d l c b (log_with e.log u (e.log.steps + 1) e.log.litres))
              (account_with a (slot_after k e.log.run.newest) (tables_give p (step_given p g e a) e.log.run.clock u.clock))

-- ---- what a `back` comes to

module _ (p : Plan) (e : Evening) (a : Account) (count : ℕ) where
  pub back_unfit : {t : Tried} {n : ℕ} → t ≡ tried n e.log a → refusal (back_refusals e.log count) ≡ n → (n ≡ 0 → ⊥) →
      GoesBack p e a count t.number (with-log e t.log) t.account
  unfolding back_came
  back_unfit x h d = as_refused p nothing_given e a x ∙ (ap (λ (k : ℕ). came k e a) (sym h) ∙ sym (pick_false _ _ (ne_eqb _ _ (λ y. d (sym h ∙ y)))))

  -- how many steps were taken back, as the log tells it
  pub back_count : {d l c b : List ℕ} {log : Log} → evening d l c b log ≡ after_back p nothing_given e count → log.steps ≡ e.log.steps - (backs p e a count).steps
  unfolding after_back
  back_count h = ap (λ (x : Evening). x.log.steps) h

  pub back_taken : {n k slots : ℕ} {after : Evening} {account : Account} → refusal (back_refusals e.log count) ≡ 0 →
      (n ≡ (backs p e a count).number) × (after ≡ after_back p nothing_given e count) → k ≡ (backs p e a count).steps → slots ≡ room_slots p e.records →
      account ≡ given_back a slots e.log.run.newest k → GoesBack p e a count n after account
  unfolding back_came
  back_taken {n} {k} {slots} {after} {account} z t s q x =
      ap (λ (j : ℕ). came j after account) t.0
      ∙ (ap (λ (v : Evening). came (backs p e a count).number v account) t.1
      ∙ (ap (λ (b : Account). came (backs p e a count).number (after_back p nothing_given e count) b)
      (x
      ∙ (ap (λ (j : ℕ). given_back a j e.log.run.newest k) q ∙ ap (λ (j : ℕ). given_back a (room_slots p e.records) e.log.run.newest j) s))
      ∙ sym (pick_true _ _ (eq-eqb _ _ z))))

-- ---- take-backs

-- some steps taken back
pub given_some : (a : Account) (slots newest : ℕ) {steps slot : ℕ} {r : Account} → 0 < steps → slot ≡ slot_ago slots newest (steps - 1) →
    r ≡ account_back a slot → r ≡ given_back a slots newest steps
unfolding given_back
given_some a slots newest {steps = zero} h e f = absurd (omega arith)
given_some a slots newest {steps = suc n} h e f = f ∙ ap (account_back a) (e ∙ ap (slot_ago slots newest) (omega arith))

-- how many were taken back, as the two logs tell it
pub back_difference :
    (p : Plan) (e : Evening) (a : Account) (count : ℕ) {steps : ℕ} → count ≤ e.log.run.kept → e.log.run.kept ≤ e.log.steps →
    steps ≡ e.log.steps - (backs p e a count).steps → e.log.steps - steps ≡ (backs p e a count).steps
back_difference p e a count h k s =
    omega (arith, s, backs_few p count (world_of e) {e = backs p e a count} refl)

-- ---- a step over the table that was filled for it

module _ (p : Plan) (g : Given) (e : Evening) (a : Account) {n : ℕ} (h : n ≡ refusal (try_refusals g.inflow e.log a)) (z : n ≡ 0)
    {new : List ℕ} {r : ℕ} (w : Wrote (table_with g.inflow e.log.hatches e.log.litres) 0 (replicate {A = ℕ} (table_room inflow_kind) 0) new r) where
  fits : length g.inflow + length (hatch_rows e.log.hatches e.log.litres) ≤ length (replicate {A = ℕ} (table_room inflow_kind) 0)
  fits = omega (arith, try_fits g.inflow e.log a (sym h ∙ z), length-replicate {A = ℕ} (table_room inflow_kind) 0)

  new_long : length new ≡ length (replicate {A = ℕ} (table_room inflow_kind) 0)
  new_long = table-room g.inflow e.log.hatches e.log.litres fits w

  pub used_fits : r ≤ length new
  used_fits = omega (arith, fits, new_long, table_next g.inflow e.log.hatches e.log.litres w)

  pub used_long : r ≡ length (take r new)
  used_long = sym (length-take-le r new used_fits)

  used_is : take r new ≡ table_with g.inflow e.log.hatches e.log.litres
  used_is = table_is g.inflow e.log.hatches e.log.litres w

  -- where the checks pass, they pass for that table
  pub used_passes : StepPasses p g e a → Passes p (given g.lie g.rain (take r new)) (world_of e)
  used_passes passes = subst (λ (t : List ℕ). Passes p (given g.lie g.rain t) (world_of e)) (sym used_is) passes

  module _ {answer : Answer} {depths lasts records : List ℕ} (s : Steps p (given g.lie g.rain (take r new)) (world_of e) answer depths lasts records) where
    by_table : Steps p (step_given p g e a) (world_of e) answer depths lasts records
    by_table = subst (λ (t : List ℕ). Steps p (given g.lie g.rain t) (world_of e) answer depths lasts records) used_is s

    pub used_refused : {k : ℕ} → answer ≡ Refused k → {t : Tried} → t ≡ tried k e.log a →
        MakesOne p g e a t.number (evening depths lasts records e.began t.log) t.account
    used_refused x y = step-refused p g e a h z by_table x y

    module _ {run : Run} (x : answer ≡ Done run) where
      made : step_number p (step_given p g e a) (world_of e) ≡ 0
      made = (step_made p g e a h z by_table x).1

      run_is : run ≡ (stepped p (step_given p g e a) (world_of e)).run
      run_is = (step_made p g e a h z by_table x).0

      pub used_newest : e.log.run.newest < room_slots p e.records
      used_newest = made_newest p (step_given p g e a) (world_of e) made

      pub used_steps : e.log.steps + 1 < 18_446_744_073_709_551_616
      used_steps = omega (arith, try_steps g.inflow e.log a (sym h ∙ z), made_clock p (step_given p g e a) (world_of e) made)

      pub used_between : Between p (tables g.lie.rules g.rain (take r new)) e.log.run.clock run.clock
      used_between =
          subst (λ (t : List ℕ). Between p (tables g.lie.rules g.rain t) e.log.run.clock run.clock) (sym used_is)
          (subst (λ (u : Run). Between p (tables g.lie.rules g.rain (step_given p g e a).inflow) e.log.run.clock u.clock) (sym run_is)
          (made_between p (step_given p g e a) (world_of e) made))

      pub used_done :
          {t : Tried} {began : List ℕ} {slots : ℕ} → slots ≡ room_slots p e.records →
          (t ≡ tried 0 (log_with e.log run (e.log.steps + 1) e.log.litres) (account_with a (slot_after slots e.log.run.newest) (tables_give p (tables g.lie.rules g.rain (take r new)) e.log.run.clock run.clock))) ×
          (began ≡ rates_kept slots 1 e.log.run.newest e.log.litres e.began) →
          MakesOne p g e a t.number (evening depths lasts records began t.log) t.account
      used_done {t} {began} {slots} k y =
          step_done p g e a h z by_table x k (
            y.0
                ∙ ap (λ (m : ℕ). tried 0 (log_with e.log run (e.log.steps + 1) e.log.litres) (account_with a (slot_after slots e.log.run.newest) m))
                (ap (λ (l : List ℕ). tables_give p (tables g.lie.rules g.rain l) e.log.run.clock run.clock) used_is
                ∙ tables_same p (step_given p g e a) (world_of e) made e.log.run.clock run.clock),
            y.1,
          )
