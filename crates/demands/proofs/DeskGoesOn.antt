-- What was saved goes on, call by call: the same deeds follow at both desks, and each call tells alike of what is shown alike.
-- Assumes nothing.
use mathlib.Core.Path.{◌≡◌, refl, sym, ap, ap₂, subst, ◌∙◌}
use mathlib.Core.Bool.{Bool, true, false}
use mathlib.Core.List.{List, [], ◌∷◌, ◌++◌, append-nil}
use Prim.Native.Nat.{ℕ}
use lib.Dec.{eqb}
use lib.ListN.{get_or, drop}
use Rattle.reckon.specs.Tests.{pick, every, refusal}
use Rattle.text.proofs.ReadingLaws.{by_test}
use Rattle.text.specs.Writing.{line_text}
use Rattle.answer.specs.Printed.{out_word, soak_word}
use Rattle.ledger.specs.Runs.{Plan}
use Rattle.checks.specs.Given.{Given}
use Rattle.checks.specs.Bounds.{bounds_of, bounds_number}
use Rattle.frames.specs.Bounds.{bounds_text}
use Rattle.hatches.specs.Log.{Evening}
use Rattle.hatches.specs.declared.lines.Entry.TheVariants.{Hatch, Rate, Back}
use Rattle.evenings.specs.Program.{Stores}
use Rattle.stands.specs.Texts.{stand_word, start_word, given_word, first_text, head_text, total_text, hatches_text, squares_text, stand_text}
use Rattle.trying.specs.Lines.{Came, came, step_came}
use Rattle.desks.specs.Orders.{order}
use Rattle.desks.specs.State.{no_series}
use Rattle.desks.specs.Lines.{Told, plainly, shown, last_told, made_told, saved_of, done_text, ending_text, state_text, step_refusals, steps_left, order_told, entry_told, back_told, step_told, most_told, stand_told, next_told}
use Rattle.desks.specs.Command.{Left, plan_on, told_on, untouched, command_left, step_left}
use Rattle.desks.specs.declared.orders.Order.{Order}
use Rattle.desks.specs.declared.orders.Order.TheVariants.{Sheet, Entered, Draw, Step, Show, Arrows, Most, Stand, Lay, NoOrder}
use Rattle.desks.specs.declared.state.Desk.{Desk}
use Rattle.desks.specs.declared.state.Series.{Series}
use Rattle.demands.specs.Desk as deeds
use Rattle.demands.specs.Desk.{Deed, naming, drawing, one_step, going_back, deed_came, deed_number, desk_with, desk_after, ShownAlike, numbers_of, AllWithin}
use Rattle.demands.specs.DeskLines.{lays_down, deed_of, step_deed, OnDesk, state_on, ground_on}
use Rattle.demands.specs.DeskCalls.{Call, a_line, going_on, called, deeds_of, Tries, AllTry, after_calls, deeds_in, BeginsOn, starts_as, comes_to}
use Rattle.demands.specs.DeskWalls.{answers}
use Rattle.demands.specs.DeskSavedCalls.{keeping, laid_on, LaidAgain}
use Rattle.demands.specs.DeskGoesOn.{AnswersAlike, one_text, one_state, AllAlike, NoArrows, NeverArrows, DeskGoesOn}
use Rattle.demands.proofs.LineDeeds.{not_sheet, never, line_is, next_is, stands_still}
use Rattle.demands.proofs.CallDeeds.{Reached, RatesNine, nine_next, one_call, nine_first, reached}
use Rattle.demands.proofs.DeskWalls.{pick_two}
use Rattle.demands.proofs.SavedCalls.{frame_alike}

-- ---- what is told of two states that are shown alike

record ToldAlike (t u : Told) : Type 0 where
  text : AnswersAlike t.text u.text
  series : t.series ≡ u.series

same_told : {t u : Told} → t.text ≡ u.text → t.series ≡ u.series → ToldAlike t u
same_told p q = record { text = one_text p; series = q }

module _ (p : Plan) (g : Given) where
  -- two outcomes: one number, and states that are shown alike
  record CameAlike (c d : Came) : Type 0 where
    number : c.number ≡ d.number
    frame : (k : ℕ) → state_text p (keeping k c.evening.log) c.account c.evening.depths
        ≡ state_text p (keeping k d.evening.log) d.account d.evening.depths

  module _ {c d : Came} (A : CameAlike c d) where
    framed : (end end' : List ℕ) → end ≡ end' →
        AnswersAlike (state_text p c.evening.log c.account c.evening.depths ++ end) (state_text p d.evening.log d.account d.evening.depths ++ end')
    framed end end' q =
        one_state p c.evening.log c.account c.evening.depths end c.evening.log.run.kept d.evening.log.run.kept refl
        (ap₂ (λ (s t : List ℕ). s ++ t) (sym (A.frame d.evening.log.run.kept)) (sym q))

    plainly_alike : ToldAlike (plainly c) (plainly d)
    plainly_alike = same_told (ap (λ (n : ℕ). ending_text n 0) A.number) refl

    shown_alike : ToldAlike (shown p c) (shown p d)
    shown_alike = record { text = framed (ending_text c.number 0) (ending_text d.number 0) (ap (λ (n : ℕ). ending_text n 0) A.number); series = refl }

    last_alike : (each : Bool) → ToldAlike (last_told p each c) (last_told p each d)
    last_alike each = pick_two ToldAlike each plainly_alike shown_alike

    made_alike : (s : Series) → ToldAlike (made_told p s c) (made_told p s d)
    made_alike s =
        record {
          text =
              pick_two AnswersAlike s.every
              (subst (λ (t : List ℕ). AnswersAlike t (state_text p d.evening.log d.account d.evening.depths)) (append-nil _)
              (subst (AnswersAlike (state_text p c.evening.log c.account c.evening.depths ++ [])) (append-nil _) (framed [] [] refl)))
              (one_text refl);
          series = refl;
        }

    -- what is told where none is refused, and where one is
    by_number : {s t s' t' : Told} → ToldAlike s s' → ToldAlike t t' → ToldAlike (pick (eqb c.number 0) s t) (pick (eqb d.number 0) s' t')
    by_number {s} {t} {s'} {t'} x y =
        subst (λ (n : ℕ). ToldAlike (pick (eqb c.number 0) s t) (pick (eqb n 0) s' t')) A.number (pick_two ToldAlike (eqb c.number 0) x y)

  module _ (x y : deeds.Desk) where
    shown-came : ShownAlike p g x y → CameAlike (came 0 x.at x.account) (came 0 y.at y.account)
    shown-came s = record { number = refl; frame = frame_alike p p g x y s }

    deed-came : (d : Deed) → deed_number p g d x ≡ deed_number p g d y → ShownAlike p g (desk_with p g d x) (desk_with p g d y) →
        CameAlike (deed_came p g d x.at x.account) (deed_came p g d y.at y.account)
    unfolding desk_with
    deed-came d n s = record { number = n; frame = frame_alike p p g (desk_with p g d x) (desk_with p g d y) s }

    saved_alike : ShownAlike p g x y →
        stand_text p x.at.depths x.at.lasts (saved_of x.at.log x.account) ≡ stand_text p y.at.depths y.at.lasts (saved_of y.at.log y.account)
    unfolding stand_text head_text first_text
    saved_alike s = λ j.
        (line_text stand_word (s.steps j ∷ (s.seen j).clock ∷ (s.seen j).length ∷ pick {A = ℕ} (s.opening j) 1 0 ∷ [])
        ++ (total_text out_word (s.seen j).outflow
        ++ (total_text soak_word (s.seen j).soaked ++ (total_text start_word (s.start j) ++ total_text given_word (s.given j)))))
        ++ (hatches_text (s.hatches j) (s.litres j) ++ squares_text p (s.seen j).depths (s.seen j).lasts)

    -- the deeds of one call come to the same
    record Comes (ds : List Deed) : Type 0 where
      numbers : numbers_of p g ds x ≡ numbers_of p g ds y
      after : ShownAlike p g (desk_after p g ds x) (desk_after p g ds y)

    one_came : (d : Deed) → Comes (d ∷ []) → CameAlike (deed_came p g d x.at x.account) (deed_came p g d y.at y.account)
    unfolding numbers_of desk_after
    one_came d c = deed-came d (ap (λ (l : List ℕ). get_or l 0 0) c.numbers) c.after

    line_alike : (text : List ℕ) (o : Order) → lays_down o ≡ false → (o ≡ Arrows → ⊥) → ShownAlike p g x y → Comes (deed_of o) →
        ToldAlike (order_told p x.at x.account g.lie.rules g.inflow text o) (order_told p y.at y.account g.lie.rules g.inflow text o)
    unfolding order_told entry_told back_told step_told most_told stand_told deed_of deed_came lays_down
    line_alike text (Entered (Hatch n row column)) l z s c = plainly_alike (one_came (naming n row column) c)
    line_alike text (Entered (Back count)) l z s c =
        let A = one_came (going_back count) c in by_number A (shown_alike A) (plainly_alike A)
    line_alike text (Entered (Rate clock n litres)) l z s c = same_told refl refl
    line_alike text (Draw n litres) l z s c = plainly_alike (one_came (drawing n litres) c)
    line_alike text (Step count end every') l z s c =
        pick_two ToldAlike (eqb (refusal (step_refusals p x.at x.account count end every')) 0) (same_told refl refl) (same_told refl refl)
    line_alike text Show l z s c = shown_alike (shown-came s)
    line_alike text Arrows l z s c = absurd (z refl)
    line_alike text (Most end) l z s c =
        same_told (λ j. bounds_text (bounds_of g.lie.rules (s.seen j).clock end) ++ ending_text (bounds_number g.lie.rules (s.seen j).clock end) 0) refl
    line_alike text Stand l z s c = same_told (ap (λ (t : List ℕ). t ++ done_text) (saved_alike s)) refl
    line_alike text NoOrder l z s c = same_told refl refl
    line_alike text (Sheet bytes) l z s c = absurd (never l)
    line_alike text (Lay bytes) l z s c = absurd (never l)

    next_alike : (s : Series) → ShownAlike p g x y → Comes (one_step ∷ []) → ToldAlike (next_told p g x.at x.account s) (next_told p g y.at y.account s)
    unfolding next_told deed_came
    next_alike s v c =
        let A : CameAlike (step_came p g x.at x.account) (step_came p g y.at y.account) = one_came one_step c in
        subst (λ (clock : ℕ). ToldAlike (told_at x x.at.log.run.clock) (told_at y clock)) (λ j. (v.seen j).clock)
        (pick_two ToldAlike (steps_left s x.at.log.run.clock) (by_number A (made_alike A s) (last_alike A s.every)) (last_alike (shown-came v) s.every))
      where
        told_at : deeds.Desk → ℕ → Told
        told_at z clock =
            let c = step_came p g z.at z.account in
            pick (steps_left s clock) (pick (eqb c.number 0) (made_told p s c) (last_told p s.every c)) (last_told p s.every (came 0 z.at z.account))

  -- ---- the same deeds, at both

  -- whatever deeds follow, of which no `back` goes below where the second began
  abbrev Couples : deeds.Desk → deeds.Desk → Type 0
  Couples x y = (ds : List Deed) → AllWithin p g ds y → (numbers_of p g ds x ≡ numbers_of p g ds y) × ShownAlike p g (desk_after p g ds x) (desk_after p g ds y)

  couples_one : (d : Deed) (x y : deeds.Desk) → deeds.Within p g d y → Couples x y → Couples (desk_with p g d x) (desk_with p g d y)
  unfolding desk_after numbers_of
  couples_one d x y w c ds v = let t = c (d ∷ ds) (w, v) in (ap (drop 1) t.0, t.1)

  couples_next : (ds : List Deed) (x y : deeds.Desk) → AllWithin p g ds y → Couples x y → Couples (desk_after p g ds x) (desk_after p g ds y)
  unfolding desk_after
  couples_next [] x y w c = c
  couples_next (d ∷ rest) x y w c = couples_next rest (desk_with p g d x) (desk_with p g d y) w.1 (couples_one d x y w.0 c)

  within_parts : (ds es : List Deed) (y : deeds.Desk) → AllWithin p g (ds ++ es) y → AllWithin p g ds y × AllWithin p g es (desk_after p g ds y)
  unfolding desk_after
  within_parts [] es y w = (tt, w)
  within_parts (d ∷ rest) es y w = let v = within_parts rest es (desk_with p g d y) w.1 in ((w.0, v.0), v.1)

  -- ---- a call at both

  record Beside (d : Desk) (r : Stores) (x : deeds.Desk) (d' : Desk) (r' : Stores) (y : deeds.Desk) : Type 0 where
    one : Reached p g d r x
    other : Reached p g d' r' y
    series : d.series ≡ d'.series
    couples : Couples x y
    nine : RatesNine p g x
    nine_other : RatesNine p g y

  module _ {d : Desk} {r : Stores} {x : deeds.Desk} {d' : Desk} {r' : Stores} {y : deeds.Desk} (B : Beside d r x d' r' y) where
    shows : ShownAlike p g x y
    unfolding desk_after
    shows = (B.couples [] tt).1

    clock_same : d.log.run.clock ≡ d'.log.run.clock
    clock_same =
        ap (λ (e : Evening). e.log.run.clock) (sym B.one.standing.at_is)
        ∙ ((λ j. (shows.seen j).clock) ∙ ap (λ (e : Evening). e.log.run.clock) B.other.standing.at_is)

    deeds_same : (c : Call) → deeds_of c d ≡ deeds_of c d'
    unfolding step_deed
    deeds_same (a_line line text) = refl
    deeds_same going_on = ap₂ (λ (s : Series) (clock : ℕ). pick (every (s.on ∷ steps_left s clock ∷ [])) (one_step ∷ []) []) B.series clock_same

    -- what is left is told alike
    record LeftAlike (l m : Left) : Type 0 where
      text : AnswersAlike l.text m.text
      series : l.desk.series ≡ m.desk.series

    left_alike : {l m : Left} {t u : Told} → l ≡ told_on d r t → m ≡ told_on d' r' u → ToldAlike t u → LeftAlike l m
    left_alike {l} {m} {t} {u} p q a =
        subst (λ (k : Left). LeftAlike k m) (sym p) (subst (LeftAlike (told_on d r t)) (sym q) (record { text = a.text; series = a.series }))

    line_left : (text : List ℕ) (o : Order) → lays_down o ≡ false → (o ≡ Arrows → ⊥) → AllWithin p g (deed_of o) y → LeftAlike (command_left d r text o) (command_left d' r' text o)
    line_left text o l z w =
        left_alike (line_is d r B.one.on text o (not_sheet o l) ∙ ap (told_on d r) one_told) (line_is d' r' B.other.on text o (not_sheet o l) ∙ ap (told_on d' r') other_told)
        (line_alike x y text o l z shows (let c = B.couples (deed_of o) w in record { numbers = c.0; after = c.1 }))
      where
        one_told : order_told (plan_on d r) (state_on d r) d.account (ground_on d r).lie.rules (ground_on d r).inflow text o
            ≡ order_told p x.at x.account g.lie.rules g.inflow text o
        one_told = λ j.
            order_told (B.one.plan_is j) (sym B.one.standing.at_is j) (sym B.one.standing.account_is j) (B.one.ground_is j).lie.rules (B.one.ground_is j).inflow text o

        other_told : order_told (plan_on d' r') (state_on d' r') d'.account (ground_on d' r').lie.rules (ground_on d' r').inflow text o
            ≡ order_told p y.at y.account g.lie.rules g.inflow text o
        other_told = λ j.
            order_told (B.other.plan_is j) (sym B.other.standing.at_is j) (sym B.other.standing.account_is j) (B.other.ground_is j).lie.rules (B.other.ground_is j).inflow
            text o

    step_left_lem : LeftAlike (step_left d r) (step_left d' r')
    step_left_lem = by_test d.series.on going idle
      where
        idle : d.series.on ≡ false → LeftAlike (step_left d r) (step_left d' r')
        idle q =
            subst (λ (k : Left). LeftAlike k (step_left d' r')) (sym (stands_still d r q))
            (subst (LeftAlike (untouched d r [])) (sym (stands_still d' r' (ap (λ (s : Series). s.on) (sym B.series) ∙ q)))
            (record { text = one_text refl; series = refl }))

        going : d.series.on ≡ true → LeftAlike (step_left d r) (step_left d' r')
        going q =
            left_alike (next_is d r B.one.on q ∙ ap (told_on d r) one_told)
            (next_is d' r' B.other.on (ap (λ (s : Series). s.on) (sym B.series) ∙ q) ∙ ap (told_on d' r') other_told)
            (next_alike x y d.series shows (let c = B.couples (one_step ∷ []) (tt, tt) in record { numbers = c.0; after = c.1 }))
          where
            one_told : next_told (plan_on d r) (ground_on d r) (state_on d r) d.account d.series ≡ next_told p g x.at x.account d.series
            one_told = λ j. next_told (B.one.plan_is j) (B.one.ground_is j) (sym B.one.standing.at_is j) (sym B.one.standing.account_is j) d.series

            other_told : next_told (plan_on d' r') (ground_on d' r') (state_on d' r') d'.account d'.series ≡ next_told p g y.at y.account d.series
            other_told = λ j.
                next_told (B.other.plan_is j) (B.other.ground_is j) (sym B.other.standing.at_is j) (sym B.other.standing.account_is j) (sym B.series j)

    call_left : (c : Call) → Tries c → NoArrows c → AllWithin p g (deeds_of c d') y → LeftAlike (called c d r) (called c d' r')
    call_left (a_line line text) t z w = line_left text (order line) t z w
    call_left going_on t z w = step_left_lem

    beside_next : (c : Call) → Tries c → NoArrows c → AllWithin p g (deeds_of c d') y →
        Beside (called c d r).desk (called c d r).rooms (desk_after p g (deeds_of c d') x) (called c d' r').desk (called c d' r').rooms (desk_after p g (deeds_of c d') y)
    beside_next c t z w =
        record {
          one =
              subst (λ (ds : List Deed). Reached p g (called c d r).desk (called c d r).rooms (desk_after p g ds x)) (deeds_same c)
              (one_call p g c d r x t B.nine B.one);
          other = one_call p g c d' r' y t B.nine_other B.other;
          series = (call_left c t z w).series;
          couples = couples_next (deeds_of c d') x y w B.couples;
          nine = nine_next p g (deeds_of c d') x B.nine;
          nine_other = nine_next p g (deeds_of c d') y B.nine_other;
        }

  all_alike : (further : List Call) {d : Desk} {r : Stores} {x : deeds.Desk} {d' : Desk} {r' : Stores} {y : deeds.Desk} → Beside d r x d' r' y →
      AllTry further → NeverArrows further → AllWithin p g (deeds_in further d' r') y → AllAlike (answers further d r) (answers further d' r')
  unfolding answers deeds_in
  all_alike [] B t z w = tt
  all_alike (c ∷ rest) {d} {r} {x} {d'} {r'} {y} B t z w =
      let v = within_parts (deeds_of c d') (deeds_in rest (called c d' r').desk (called c d' r').rooms) y w in
      ((call_left B c t.0 z.0 v.0).text, all_alike rest (beside_next B c t.0 z.0 v.0) t.1 z.1 v.1)

-- ---- from where it was saved

module _ (d : Desk) (r : Stores) (on : OnDesk d r) (first : BeginsOn d r) (calls : List Call) (t : AllTry calls) (d' : Desk) (r' : Stores) (again : LaidAgain d r calls d' r') where
  abbrev there : Left
  there = laid_on d r calls d' r'

  abbrev begun : deeds.Desk
  begun = starts_as there.desk there.rooms

  beside : (after_calls calls d r).0.series ≡ no_series →
      Beside (plan_on d r) (ground_on d r) (after_calls calls d r).0 (after_calls calls d r).1 (comes_to d r calls) there.desk there.rooms begun
  beside still =
      record {
        one = reached d r on first calls t;
        other =
            record {
              on = again.on;
              plan_is = again.plan_same;
              ground_is = again.ground_same;
              standing = record { at_is = refl; account_is = refl };
            };
        series = still ∙ sym again.still;
        couples = again.goes_on;
        nine = nine_next (plan_on d r) (ground_on d r) (deeds_in calls d r) (starts_as d r) (nine_first d r on first);
        nine_other =
            subst (λ (p : Plan). RatesNine p (ground_on d r) begun) again.plan_same
            (subst (λ (g : Given). RatesNine (plan_on there.desk there.rooms) g begun) again.ground_same
            (nine_first there.desk there.rooms again.on again.begins));
      }

pub desk_goes_on : DeskGoesOn
desk_goes_on =
    record {
      goes_on = λ d r on first calls t d' r' again still further u z w.
          all_alike (plan_on d r) (ground_on d r) further (beside d r on first calls t d' r' again still) u z w;
    }
