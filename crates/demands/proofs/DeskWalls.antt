-- Walls at the desk hold: each call is worked beside the same call over what closed squares hold of the other desk.
-- Assumes nothing.
use mathlib.Core.Path.{◌≡◌, refl, sym, ap, ap₂, subst, ◌∙◌}
use mathlib.Core.Bool.{Bool, true, false}
use mathlib.Core.List.{List, [], ◌∷◌, ◌++◌}
use Prim.Native.Nat.{ℕ, zero, suc, ◌+◌, ◌-◌, ◌/◌, ◌%◌}
use lib.Dec.{eqb}
use lib.ListN.{length}
use Rattle.reckon.specs.Tests.{pick, refusal}
use Rattle.reckon.proofs.TestLaws.{pick_false, pick_both, not_both}
use Rattle.reckon.proofs.ListLaws.{joined_ext, sum_ext}
use Rattle.text.proofs.ReadingLaws.{by_test}
use Rattle.trials.specs.Ring.{slot_after}
use Rattle.grid.specs.Squares.{squares}
use Rattle.grid.specs.Marks.{Alike}
use Rattle.grid.proofs.MarkLaws.{unless_closed}
use Rattle.ledger.specs.Runs.{Plan, World}
use Rattle.ledger.specs.Record.{room_slots, newest_record}
use Rattle.ledger.specs.Account.{over_open, water}
use Rattle.ledger.specs.TakeBack.{back_number, taken_back}
use Rattle.ledger.specs.declared.runs.Run.{Run}
use Rattle.checks.specs.Given.{Given, given, ground}
use Rattle.adding.specs.Added.{added_for}
use Rattle.adding.specs.Account.{tables_give}
use Rattle.flood.specs.Step.{step_number, stepped}
use Rattle.flood.specs.Run.{Ended, go_on}
use Rattle.rule.specs.declared.rules.Rules.{Rules}
use Rattle.sight.specs.Arrows.{view, arrow_number, seen_at, seen_by}
use Rattle.sight.specs.AllArrows.{Sights, seen_square, laid_out}
use Rattle.sight.proofs.ArrowLaws.{number_in, number_kept}
use Rattle.sight.proofs.AllArrowsLaws.{laid_ext}
use Rattle.frames.specs.Frame.{frame_text}
use Rattle.frames.specs.Arrows.{arrows_text}
use Rattle.frames.proofs.FrameLaws.{frame_same}
use Rattle.hatches.specs.Log.{Evening, evening, most_hatches, log_with, rates_kept, rates_back}
use Rattle.hatches.specs.declared.log.Log.{Log}
use Rattle.hatches.specs.declared.lines.Entry.TheVariants.{Hatch, Rate, Back}
use Rattle.evenings.specs.Program.{Stores}
use Rattle.evenings.specs.Taking.{world_of, back_from, after_back}
use Rattle.stands.specs.Texts.{square_text, squares_text, stand_text, head_text, hatches_text}
use Rattle.sheet.specs.declared.reading.Heading.{Heading}
use Rattle.trying.specs.Given.{account_with}
use Rattle.trying.specs.Lines.{Came, came, try_refusals, step_given, evening_next, account_next, step_came, back_refusals, given_back, back_came}
use Rattle.trying.specs.Lines as trying
use Rattle.trying.specs.declared.given.Account.{Account}
use Rattle.desks.specs.Orders.{order}
use Rattle.desks.specs.State.{kept_slots, no_series, desk_with}
use Rattle.desks.specs.Lines.{Told, plainly, shown, last_told, made_told, figures_of, saved_of, done_text, ending_text, state_text, step_refusals, steps_left, order_told, entry_told, back_told, step_told, arrows_told, most_told, stand_told, next_told}
use Rattle.desks.specs.Command.{Left, evening_on, stores_with, plan_on, ready_number, told_on, untouched, is_sheet, command_left, step_left}
use Rattle.desks.specs.declared.orders.Order.{Order}
use Rattle.desks.specs.declared.orders.Order.TheVariants.{Sheet, Entered, Draw, Step, Show, Arrows, Most, Stand, Lay, NoOrder}
use Rattle.desks.specs.declared.state.Desk.{Desk}
use Rattle.desks.specs.declared.state.Series.{Series}
use Rattle.demands.specs.Closed.{SameOpen, SameRecord, SameRoom, SameWorld, SameEnd}
use Rattle.demands.specs.DeskLines.{lays_down, deed_of, OnDesk, state_on, ground_on}
use Rattle.demands.specs.DeskCalls.{Call, a_line, going_on, called, Tries, AllTry, after_calls, deeds_in, BeginsOn}
use Rattle.demands.specs.DeskWalls.{SameState, SameDesks, SameLeft, answers, SameEvening, DeskWalls}
use Rattle.demands.proofs.Demand2.{demand_2}
use Rattle.demands.proofs.DeskLaws.{stands}
use Rattle.demands.proofs.LineDeeds.{Sized, put_taken, told-on, OneOf, sized_one, line_tells, step_tells, line_is, next_is}
use Rattle.demands.proofs.CallDeeds.{desk_calls}

-- two choices by one test are related as their sides are
pub pick_two : {A : Type 0} (R : A → A → Type 0) (b : Bool) {a c a' c' : A} → R a a' → R c c' → R (pick b a c) (pick b a' c')
unfolding pick
pick_two R true x y = x
pick_two R false x y = y

module _ (p : Plan) where
  -- ---- texts

  water_same : {a b : List ℕ} → Alike p.marks a b → water p a ≡ water p b
  unfolding water over_open
  water_same h = sum_ext (squares p.shape) _ _ (λ i l. unless_closed p.marks i 0 (λ o. h.at i o))

  frames_same : (log : Log) (a : Account) {x y : List ℕ} → Alike p.marks x y → state_text p log a x ≡ state_text p log a y
  unfolding state_text
  frames_same log a {x} {y} h =
      frame_same p.marks h (figures_of log a (kept_slots p.shape) (water p x)) log.litres p.shape
      ∙ ap (λ (n : ℕ). frame_text (figures_of log a (kept_slots p.shape) n) log.litres p.shape p.marks y) (water_same h)

  squares_same : {x y u v : List ℕ} → Alike p.marks x y → Alike p.marks u v → squares_text p x u ≡ squares_text p y v
  unfolding squares_text square_text
  squares_same h k = joined_ext (squares p.shape) _ _ (λ i l. unless_closed p.marks i [] (λ o. rw (h.at i o, k.at i o)))

  -- ---- what comes of a deed, and what is told

  record SameCame (c d : Came) : Type 0 where
    number : c.number ≡ d.number
    evening : SameState p c.evening d.evening
    account : c.account ≡ d.account

  record SameTold (t u : Told) : Type 0 where
    evening : SameState p t.evening u.evening
    account : t.account ≡ u.account
    series : t.series ≡ u.series
    text : t.text ≡ u.text

  module _ {c d : Came} (S : SameCame c d) where
    framed_same : state_text p c.evening.log c.account c.evening.depths ≡ state_text p d.evening.log d.account d.evening.depths
    framed_same =
        frames_same c.evening.log c.account S.evening.depths.alike
        ∙ ap₂ (λ (log : Log) (a : Account). state_text p log a d.evening.depths) S.evening.log S.account

    plainly_same : SameTold (plainly c) (plainly d)
    plainly_same = record { evening = S.evening; account = S.account; series = refl; text = ap (λ (n : ℕ). ending_text n 0) S.number }

    shown_same : SameTold (shown p c) (shown p d)
    shown_same =
        record {
          evening = S.evening;
          account = S.account;
          series = refl;
          text = ap₂ (λ (l : List ℕ) (n : ℕ). l ++ ending_text n 0) framed_same S.number;
        }

    last_same : (each : Bool) → SameTold (last_told p each c) (last_told p each d)
    last_same each = pick_two SameTold each plainly_same shown_same

    made_same : (s : Series) → SameTold (made_told p s c) (made_told p s d)
    made_same s =
        record {
          evening = S.evening;
          account = S.account;
          series = refl;
          text = ap (λ (l : List ℕ). pick s.every l []) framed_same;
        }

  -- ---- take-backs

  backs_same : (n made : ℕ) (w v : World) → SameWorld p w v → SameEnd p (back_from p n made w) (back_from p n made v)
  unfolding back_from go_on
  backs_same zero made w v W = record { number = refl; steps = refl; world = W }
  backs_same (suc n) made w v W =
      let t = (demand_2 p).none_depends.take_back w v W in
      subst (λ (k : ℕ). SameEnd p (back_from p (suc n) made w) (go_on k made v (back_from p n (suc made) (taken_back p v)))) t.0
      (go (back_number p w) (backs_same n (suc made) (taken_back p w) (taken_back p v) t.1))
    where
      go : (k : ℕ) {e f : Ended} → SameEnd p e f → SameEnd p (go_on k made w e) (go_on k made v f)
      go zero E = E
      go (suc k) E = record { number = refl; steps = refl; world = W }

  slots_same : {a b : List ℕ} → SameRoom p a b → room_slots p a ≡ room_slots p b
  unfolding room_slots
  slots_same R = rw R.long

  -- ---- each call, with all else of the one put beside what closed squares hold of the other

  module _ (g : Given) (e : Evening) (a : Account) {beds' rough' rates' depths' lasts' records' : List ℕ} (B : SameOpen p g.lie.beds beds')
      (K : SameOpen p g.lie.roughness rough') (S : SameOpen p g.lie.rates rates') (D : SameOpen p e.depths depths') (L : SameOpen p e.lasts lasts') (R : SameRoom p e.records records') where
    abbrev h : Given
    h = given (ground g.lie.rules beds' rough' rates') g.rain g.inflow

    abbrev f : Evening
    f = evening depths' lasts' records' e.began e.log

    world_same : SameWorld p (world_of e) (world_of f)
    world_same = record { depths = D; lasts = L; records = R; run = refl }

    -- another log over the same squares
    with-log : (log : Log) → SameState p (evening e.depths e.lasts e.records e.began log) (evening depths' lasts' records' e.began log)
    with-log log = record { depths = D; lasts = L; records = R; began = refl; log = refl }

    stays_same : (n : ℕ) → SameCame (came n e a) (came n f a)
    stays_same n = record { number = refl; evening = with-log e.log; account = refl }

    -- a call that leaves the state and says the same
    looks_same : (s : Series) {t u : List ℕ} → t ≡ u →
        SameTold (record { evening = e; account = a; series = s; text = t }) (record { evening = f; account = a; series = s; text = u })
    looks_same s q = record { evening = with-log e.log; account = refl; series = refl; text = q }

    -- ---- a step

    abbrev G : Given
    G = step_given p g e a

    abbrev H : Given
    H = step_given p h f a

    steps : (step_number p G (world_of e) ≡ step_number p H (world_of f)) × SameWorld p (stepped p G (world_of e)) (stepped p H (world_of f))
    steps =
        (demand_2 p).none_depends.step G H (world_of e) (world_of f)
        (record { beds = B; roughness = K; rates = S; rules = refl; rain = refl; inflow = refl }) world_same

    given_same : (start end : ℕ) → tables_give p G start end ≡ tables_give p H start end
    unfolding tables_give added_for
    given_same start end = refl

    next_same : SameCame (came 0 (evening_next p g e a) (account_next p g e a)) (came 0 (evening_next p h f a) (account_next p h f a))
    next_same =
        record {
          number = refl;
          evening =
              record {
                depths = steps.1.depths;
                lasts = steps.1.lasts;
                records = steps.1.records;
                began = ap (λ (k : ℕ). rates_kept k 1 e.log.run.newest e.log.litres e.began) (slots_same R);
                log = ap (λ (u : Run). log_with e.log u (e.log.steps + 1) e.log.litres) steps.1.run;
              };
          account =
              ap₂ (λ (k c : ℕ). account_with a (slot_after k e.log.run.newest) (tables_give p G e.log.run.clock c)) (slots_same R)
              (ap (λ (u : Run). u.clock) steps.1.run)
              ∙ ap (account_with a (slot_after (room_slots p records') e.log.run.newest)) (given_same e.log.run.clock _);
        }

    step_same : SameCame (step_came p g e a) (step_came p h f a)
    unfolding step_came
    step_same =
        pick_two SameCame (eqb (refusal (try_refusals g.inflow e.log a)) 0)
        (subst
        (λ (n : ℕ).
        SameCame
        (pick (eqb (step_number p G (world_of e)) 0) (came 0 (evening_next p g e a) (account_next p g e a)) (came (step_number p G (world_of e)) e a))
        (pick (eqb n 0) (came 0 (evening_next p h f a) (account_next p h f a)) (came n f a)))
        steps.0
        (pick_two SameCame (eqb (step_number p G (world_of e)) 0) next_same (stays_same (step_number p G (world_of e)))))
        (stays_same (refusal (try_refusals g.inflow e.log a)))

    next-told : (s : Series) → SameTold (next_told p g e a s) (next_told p h f a s)
    unfolding next_told
    next-told s =
        pick_two SameTold (steps_left s e.log.run.clock)
        (subst
        (λ (n : ℕ).
        SameTold (pick (eqb (step_came p g e a).number 0) (made_told p s (step_came p g e a)) (last_told p s.every (step_came p g e a)))
        (pick (eqb n 0) (made_told p s (step_came p h f a)) (last_told p s.every (step_came p h f a))))
        step_same.number
        (pick_two SameTold (eqb (step_came p g e a).number 0) (made_same step_same s) (last_same step_same s.every)))
        (last_same (stays_same 0) s.every)

    -- ---- `back`

    back_same : (count : ℕ) → SameCame (back_came p e a count) (back_came p f a count)
    unfolding back_came after_back
    back_same count =
        let E : SameEnd p (trying.backs p e a count) (trying.backs p f a count) = backs_same count 0 (world_of e) (world_of f) world_same in
        let slots : room_slots p e.records ≡ room_slots p records' = slots_same R in
        pick_two SameCame (eqb (refusal (back_refusals e.log count)) 0)
        (record {
          number = E.number;
          evening =
              record {
                depths = E.world.depths;
                lasts = E.world.lasts;
                records = E.world.records;
                began = refl;
                log = λ j. log_with e.log (E.world.run j) (e.log.steps - E.steps j) (rates_back (slots j) e.began e.log (E.steps j));
              };
          account = λ j. given_back a (slots j) e.log.run.newest (E.steps j);
        })
        (stays_same (refusal (back_refusals e.log count)))

    back-told : (count : ℕ) → SameTold (back_told p e a count) (back_told p f a count)
    unfolding back_told
    back-told count =
        subst
        (λ (n : ℕ). SameTold (back_told p e a count) (pick (eqb n 0) (shown p (back_came p f a count)) (plainly (back_came p f a count))))
        (back_same count).number
        (pick_two SameTold (eqb (back_came p e a count).number 0) (shown_same (back_same count)) (plainly_same (back_same count)))

    -- ---- `arrows`

    module _ (side : ℕ) where
      abbrev here : World
      here = view e.depths e.records e.log.run

      abbrev there : World
      there = view depths' records' e.log.run

      newest_same : SameRecord p (newest_record p here) (newest_record p there)
      unfolding newest_record
      newest_same = R.slots e.log.run.newest

      at_same : (row column : ℕ) → seen_at p side here row column ≡ seen_at p side there row column
      at_same row column = (demand_2 p).none_depends.arrow side e.depths depths' e.records records' e.log.run row column D R.long newest_same

      number_same : arrow_number p side here 0 0 ≡ arrow_number p side there 0 0
      unfolding seen_at seen_by
      number_same =
          sym (number_kept (arrow_number p side here 0 0) _ _ _ _) ∙ (ap number_in (at_same 0 0) ∙ number_kept (arrow_number p side there 0 0) _ _ _ _)

      sights_same : laid_out (squares p.shape) (seen_square p side here) ≡ laid_out (squares p.shape) (seen_square p side there)
      unfolding seen_square
      sights_same = laid_ext (squares p.shape) _ _ (λ i l. at_same (i / p.shape.columns) (i % p.shape.columns))

    arrows-told : (r : Rules) → SameTold (arrows_told p e a r) (arrows_told p f a r)
    unfolding arrows_told
    arrows-told r =
        subst
        (λ (n : ℕ).
        SameTold (arrows_told p e a r)
        (pick (eqb n 0)
        (record { evening = f; account = a; series = no_series; text = arrows_text p.shape (laid_out (squares p.shape) (seen_square p r.square_side (there r.square_side))) ++ done_text })
        (record { evening = f; account = a; series = no_series; text = ending_text n 0 })))
        (number_same r.square_side)
        (pick_two SameTold (eqb (arrow_number p r.square_side (here r.square_side) 0 0) 0)
        (looks_same no_series (ap (λ (l : Sights). arrows_text p.shape l ++ done_text) (sights_same r.square_side))) (looks_same no_series refl))

    -- ---- any line that lays nothing down

    line_told : (r : Rules) (inflow text : List ℕ) (o : Order) → lays_down o ≡ false → SameTold (order_told p e a r inflow text o) (order_told p f a r inflow text o)
    unfolding order_told entry_told step_told most_told stand_told stand_text lays_down
    line_told r inflow text (Entered (Hatch n row column)) l = record { evening = with-log _; account = refl; series = refl; text = refl }
    line_told r inflow text (Entered (Back count)) l = back-told count
    line_told r inflow text (Entered (Rate clock n litres)) l = looks_same no_series refl
    line_told r inflow text (Draw n litres) l = record { evening = with-log _; account = refl; series = refl; text = refl }
    line_told r inflow text (Step count end every') l =
        pick_two SameTold (eqb (refusal (step_refusals p e a count end every')) 0) (looks_same _ refl) (looks_same no_series refl)
    line_told r inflow text Show l = shown_same (stays_same 0)
    line_told r inflow text Arrows l = arrows-told r
    line_told r inflow text (Most end) l = looks_same no_series refl
    line_told r inflow text Stand l =
        looks_same no_series
        (ap (λ (t : List ℕ). (head_text (saved_of e.log a) ++ (hatches_text e.log.hatches e.log.litres ++ t)) ++ done_text) (squares_same D.alike L.alike))
    line_told r inflow text NoOrder l = looks_same no_series refl
    line_told r inflow text (Sheet bytes) l = absurd (not_both refl l)
    line_told r inflow text (Lay bytes) l = absurd (not_both refl l)

-- ---- the calls over two stores

-- a line that lays nothing down is no sheet, and at most one deed that is no step
plain_line : (d : Desk) (r : Stores) (on : OnDesk d r) (o : Order) → lays_down o ≡ false → (is_sheet o ≡ false) × OneOf d r on (deed_of o)
unfolding lays_down is_sheet deed_of
plain_line d r on (Entered (Hatch n row column)) l = (refl, tt)
plain_line d r on (Entered (Back count)) l = (refl, tt)
plain_line d r on (Entered (Rate clock n litres)) l = (refl, tt)
plain_line d r on (Draw n litres) l = (refl, tt)
plain_line d r on (Step count end every') l = (refl, tt)
plain_line d r on Show l = (refl, tt)
plain_line d r on Arrows l = (refl, tt)
plain_line d r on (Most end) l = (refl, tt)
plain_line d r on Stand l = (refl, tt)
plain_line d r on NoOrder l = (refl, tt)
plain_line d r on (Sheet bytes) l = absurd (not_both refl l)
plain_line d r on (Lay bytes) l = absurd (not_both refl l)

-- stores the same but for closed squares have parts of the same lengths
sized_other : (p : Plan) (h : Heading) {e f : Evening} → SameState p e f → Sized h e → Sized h f
sized_other p h S z =
    record {
      depths = sym S.depths.long ∙ z.depths;
      lasts = sym S.lasts.long ∙ z.lasts;
      records = sym S.records.long ∙ z.records;
      began = ap (λ (l : List ℕ). length l) (sym S.began) ∙ z.began;
    }

module _ (d : Desk) (r s : Stores) (S : SameDesks d r s) where
  abbrev P : Plan
  P = plan_on d r

  -- all else of the one, with what the other holds
  abbrev mixed_ground : Given
  mixed_ground =
      given (ground d.heading.rules (ground_on d s).lie.beds (ground_on d s).lie.roughness (ground_on d s).lie.rates) (ground_on d r).rain
      (ground_on d r).inflow

  abbrev mixed_state : Evening
  mixed_state = evening (state_on d s).depths (state_on d s).lasts (state_on d s).records (state_on d r).began d.log

  -- what holds of the one put beside the other holds of both
  beside_other : (F : Plan → Given → Evening → Type 0) → F P mixed_ground mixed_state → F (plan_on d s) (ground_on d s) (state_on d s)
  beside_other F x =
      subst (λ (p : Plan). F p (ground_on d s) (state_on d s)) S.plan
      (subst (λ (g : Given). F P g (state_on d s))
      (λ j.
      given (ground d.heading.rules (ground_on d s).lie.beds (ground_on d s).lie.roughness (ground_on d s).lie.rates) (S.ground.rain j)
      (S.ground.inflow j))
      (subst (λ (b : List ℕ). F P mixed_ground (evening (state_on d s).depths (state_on d s).lasts (state_on d s).records b d.log)) S.state.began x))

  -- what is told is laid into each of them
  laid_same : (t u : Told) → SameTold P t u → Sized d.heading t.evening → SameLeft (told_on d r t) (told_on d s u)
  laid_same t u T z =
      record {
        text = T.text;
        desk = desks;
        rooms =
            record {
              on = told-on d r S.on t z;
              also = subst (λ (k : Desk). OnDesk k (told_on d s u).rooms) (sym desks) (told-on d s S.also u other);
              plan = S.plan;
              ground = S.ground;
              state = record { depths = parts.depths; lasts = parts.lasts; records = parts.records; began = parts.began; log = refl };
            };
      }
    where
      desks : (told_on d r t).desk ≡ (told_on d s u).desk
      desks = λ j. desk_with d (T.evening.log j) (T.account j) (T.series j) (length (T.text j))

      other : Sized d.heading u.evening
      other = sized_other P d.heading T.evening z

      parts : SameState P (evening_on d.heading (stores_with r t.evening) t.evening.log) (evening_on d.heading (stores_with s u.evening) u.evening.log)
      parts =
          subst (λ (e : Evening). SameState P e (evening_on d.heading (stores_with s u.evening) u.evening.log)) (sym (put_taken d.heading r t.evening z))
          (subst (λ (e : Evening). SameState P t.evening e) (sym (put_taken d.heading s u.evening other)) T.evening)

  line_same : (text : List ℕ) (o : Order) → lays_down o ≡ false → SameLeft (command_left d r text o) (command_left d s text o)
  line_same text o l =
      subst (λ (m : Left). SameLeft m (command_left d s text o)) (sym (line_is d r S.on text o plain.0))
      (subst (λ (m : Left). SameLeft (told_on d r here) m) (sym (line_is d s S.also text o plain.0))
      (laid_same here there both
      (subst (Sized d.heading) (sym (line_tells P (ground_on d r) (state_on d r) d.account text o l).evening_is) (sized_one d r S.on (deed_of o) plain.1))))
    where
      plain : (is_sheet o ≡ false) × OneOf d r S.on (deed_of o)
      plain = plain_line d r S.on o l

      here : Told
      here = order_told P (state_on d r) d.account d.heading.rules (ground_on d r).inflow text o

      there : Told
      there = order_told (plan_on d s) (state_on d s) d.account d.heading.rules (ground_on d s).inflow text o

      both : SameTold P here there
      both =
          beside_other (λ p g e. SameTold P here (order_told p e d.account d.heading.rules g.inflow text o))
          (line_told P (ground_on d r) (state_on d r) d.account S.ground.beds S.ground.roughness S.ground.rates S.state.depths S.state.lasts S.state.records
          d.heading.rules (ground_on d r).inflow text o l)

  -- no step is to be made
  idle_same : d.series.on ≡ false → SameLeft (step_left d r) (step_left d s)
  unfolding step_left ready_number
  idle_same q =
      subst (λ (m : Left). SameLeft m (step_left d s)) (sym (pick_false _ _ q))
      (subst (λ (m : Left). SameLeft (untouched d r []) m) (sym (pick_false _ _ q))
      (record {
        text = refl;
        desk = refl;
        rooms =
            record {
              on = record { ready = S.on.ready; whole = S.on.whole };
              also = record { ready = S.also.ready; whole = S.also.whole };
              plan = S.plan;
              ground = S.ground;
              state = S.state;
            };
      }))

  going_same : length d.log.litres ≡ most_hatches → d.series.on ≡ true → SameLeft (step_left d r) (step_left d s)
  going_same nine q =
      subst (λ (m : Left). SameLeft m (step_left d s)) (sym (next_is d r S.on q))
      (subst (λ (m : Left). SameLeft (told_on d r here) m) (sym (next_is d s S.also q))
      (laid_same here there both
      (subst (Sized d.heading) (sym (step_tells P (ground_on d r) (state_on d r) d.account d.series).evening_is)
      (sized_one d r S.on _ (pick_both (OneOf d r S.on) (steps_left d.series d.log.run.clock) nine tt)))))
    where
      here : Told
      here = next_told P (ground_on d r) (state_on d r) d.account d.series

      there : Told
      there = next_told (plan_on d s) (ground_on d s) (state_on d s) d.account d.series

      both : SameTold P here there
      both =
          beside_other (λ p g e. SameTold P here (next_told p g e d.account d.series))
          (next-told P (ground_on d r) (state_on d r) d.account S.ground.beds S.ground.roughness S.ground.rates S.state.depths S.state.lasts S.state.records
          d.series)

  next_left : length d.log.litres ≡ most_hatches → SameLeft (step_left d r) (step_left d s)
  next_left nine = by_test d.series.on (going_same nine) idle_same

  call_same : (c : Call) → Tries c → length d.log.litres ≡ most_hatches → SameLeft (called c d r) (called c d s)
  call_same (a_line line text) t nine = line_same text (order line) t
  call_same going_on t nine = next_left nine

-- ---- an evening

-- each hatch has its rate, whatever calls follow
abbrev RatesNine : Desk → Stores → Type 0
RatesNine d r = (calls : List Call) → AllTry calls → length (after_calls calls d r).0.log.litres ≡ most_hatches

nine_first : (d : Desk) (r : Stores) → OnDesk d r → BeginsOn d r → RatesNine d r
nine_first d r on first calls t =
    ap (λ (e : Evening). length e.log.litres) (sym (desk_calls.come d r on first calls t).standing.at_is)
    ∙ (stands (plan_on d r) (ground_on d r) (state_on d r) d.account first (deeds_in calls d r)).follows.nine

evening_same : (calls : List Call) (d : Desk) (r s : Stores) → SameDesks d r s → RatesNine d r → AllTry calls → SameEvening calls d r s
unfolding answers after_calls
evening_same [] d r s S nine t = record { texts = refl; desk = refl; rooms = S }
evening_same (c ∷ rest) d r s S nine t =
    let one : SameLeft (called c d r) (called c d s) = call_same d r s S c t.0 (nine [] tt) in
    let later : SameEvening rest (called c d r).desk (called c d r).rooms (called c d s).rooms =
    evening_same rest (called c d r).desk (called c d r).rooms (called c d s).rooms one.rooms (λ more u. nine (c ∷ more) (t.0, u)) t.1 in
    let last : Desk × Stores = after_calls rest (called c d r).desk (called c d r).rooms in
    record {
      texts =
          ap (λ (l : List (List ℕ)). (called c d r).text ∷ l) later.texts
          ∙ ap₂ (λ (x : List ℕ) (k : Desk). x ∷ answers rest k (called c d s).rooms) one.text one.desk;
      desk = later.desk ∙ ap (λ (k : Desk). (after_calls rest k (called c d s).rooms).0) one.desk;
      rooms = subst (λ (k : Desk). SameDesks last.0 last.1 (after_calls rest k (called c d s).rooms).1) one.desk later.rooms;
    }

pub desk_walls : DeskWalls
desk_walls =
    record {
      each_line = λ d r s S text o l. line_same d r s S text o l;
      each_step = λ d r s S nine. next_left d r s S nine;
      evening = λ d r s S first calls t. evening_same calls d r s S (nine_first d r S.on first) t;
    }
