-- What an evening of calls leaves in the rooms, by induction over the calls.
-- Assumes nothing.
use mathlib.Core.Path.{◌≡◌, refl, sym, ap, ap₂, subst, ◌∙◌}
use mathlib.Core.Bool.{true, false}
use mathlib.Core.List.{List, [], ◌∷◌, ◌++◌, append_assoc}
use Prim.Native.Nat.{ℕ, ◌+◌, ◌-◌, ◌*◌, ◌≤◌}
use native.Mathlib.Omega.{arith}
use lib.Dec.{leb}
use lib.ListN.{length, length-append, length-replicate, length-take}
use borrow.Author.Tests.{eq-eqb, le-leb}
use Rattle.reckon.specs.Tests.{pick}
use Rattle.reckon.specs.Tables.{inflow_kind, table_room}
use Rattle.reckon.proofs.TestLaws.{pick_true, pick_false, every_each, each_every, passed_refusal}
use Rattle.reckon.proofs.ListLaws.{length-filled, sum_ext}
use Rattle.grid.specs.Squares.{squares}
use Rattle.grid.specs.Marks.{Alike}
use Rattle.grid.proofs.MarkLaws.{unless_closed}
use Rattle.ledger.specs.Runs.{Plan, seen_of}
use Rattle.ledger.specs.Account.{over_open, water, held}
use Rattle.ledger.specs.Record.{room_slots}
use Rattle.checks.specs.Given.{Given}
use Rattle.checks.specs.Fresh.{fresh_run}
use Rattle.sheet.specs.declared.reading.Heading.{Heading}
use Rattle.sheet.specs.declared.reading.Sheet as reading
use Rattle.sheet.specs.declared.reading.Sheet.TheVariants.{Read, Refused}
use Rattle.sheet.specs.Sheet.{rooms_after, rooms_filled, cells_filled, rooms_fine, heading_of}
use Rattle.sheet.proofs.SheetLaws.{Well, well, rain_few, inflow_few}
use Rattle.text.proofs.ReadingLaws.{by_test}
use Rattle.programs.specs.Reading.{sheet_within}
use Rattle.hatches.specs.Log.{Evening, most_hatches, hatch_rows, table_with}
use Rattle.hatches.specs.declared.log.Log.{Log}
use Rattle.hatches.proofs.RowLaws.{named_below, rows_long}
use Rattle.hatches.specs.declared.lines.Entry.TheVariants.{Back}
use Rattle.evenings.specs.Program.{Stores}
use Rattle.evenings.specs.Taking.{world_of}
use Rattle.trying.specs.Given.{most_slots, account_opened}
use Rattle.trying.specs.declared.given.Account.{Account}
use Rattle.desks.specs.Orders.{order}
use Rattle.desks.specs.State.{desk_text, kept_slots, heading_fine, fresh_log}
use Rattle.frames.specs.Frame.{frame_text}
use Rattle.frames.proofs.FrameLaws.{frame_same}
use Rattle.stands.specs.Laying.{stand_of, water_after, water_from}
use Rattle.stands.specs.declared.saved.Laid.{Laid}
use Rattle.trying.specs.Lines.{Came, came, step_came, back_came}
use Rattle.desks.specs.Lines.{Told, shown, made_told, figures_of, state_text, order_told, entry_told, back_told, lay_told, laid_water, laid_evening, next_told, steps_left, ending_text}
use Rattle.desks.specs.Command.{Left, plan_on, told_on, command_left, step_left, sheet_left, ready_number, is_sheet, wanted_by}
use Rattle.desks.specs.declared.orders.Order.{Order}
use Rattle.desks.specs.declared.orders.Order.TheVariants.{Sheet, Entered, Show, Lay}
use Rattle.desks.specs.declared.state.Desk.{Desk}
use Rattle.desks.proofs.StateLaws.{fine_is, slots_most, slots_some}
use Rattle.desks.proofs.RoomLaws.{ready_fine}
use Rattle.demands.specs.Desk as deeds
use Rattle.demands.specs.HatchLog.{Notes}
use Rattle.demands.specs.Desk.{Deed, one_step, going_back, Begins, noted_deed, deed_came, deed_number, desk_with, desk_after}
use Rattle.demands.specs.DeskLines.{lays_down, deed_of, RoomsWhole, OnDesk, state_on, ground_on, Standing, Does}
use Rattle.demands.proofs.DeskLaws.{stands, desk_evening, desk_taken_back}
use Rattle.demands.proofs.DeskSaved.{one_kept}
use Rattle.demands.proofs.LineDeeds.{Sized, put_taken, slots_are, rates_are, shape-fine, state_sized, told-on, sized_one, desk_lines, line_is, next_is, lay_is}
use Rattle.demands.specs.DeskCalls.{Call, a_line, going_on, called, deeds_of, Tries, AllTry, after_calls, deeds_in, BeginsOn, BalancedOn, frame_on, starts_as, comes_to, StepMade, AsBefore, CallsCome, DeskCalls}

-- deeds, and more deeds
pub after_both : (p : Plan) (g : Given) (ds es : List Deed) (x : deeds.Desk) → desk_after p g (ds ++ es) x ≡ desk_after p g es (desk_after p g ds x)
unfolding desk_after
after_both p g [] es x = refl
after_both p g (d ∷ rest) es x = after_both p g rest es (desk_with p g d x)

module _ (p : Plan) (g : Given) where
  -- each hatch has its rate, whatever deeds follow
  abbrev pub RatesNine : deeds.Desk → Type 0
  RatesNine x = (ds : List Deed) → length (desk_after p g ds x).at.log.litres ≡ most_hatches

  nine_now : (x : deeds.Desk) → RatesNine x → length x.at.log.litres ≡ most_hatches
  unfolding desk_after
  nine_now x n = n []

  pub nine_next : (ds : List Deed) (x : deeds.Desk) → RatesNine x → RatesNine (desk_after p g ds x)
  nine_next ds x n es = ap (λ (y : deeds.Desk). length y.at.log.litres) (sym (after_both p g ds es x)) ∙ n (ds ++ es)

  -- where calls have come to
  pub record Reached (d : Desk) (r : Stores) (x : deeds.Desk) : Type 0 where
    pub on : OnDesk d r
    pub plan_is : plan_on d r ≡ p
    pub ground_is : ground_on d r ≡ g
    pub standing : Standing d r x

  after_does : {d : Desk} {r : Stores} {x : deeds.Desk} (ds : List Deed) (l : Left) → Reached d r x → Does ds d r l → Reached l.desk l.rooms (desk_after p g ds x)
  after_does {d} {r} {x} ds l h m =
      record {
        on = m.still_on;
        plan_is = m.plan_same ∙ h.plan_is;
        ground_is = m.ground_same ∙ h.ground_is;
        standing =
            subst (Standing l.desk l.rooms) (ap₂ (λ (q : Plan) (i : Given). desk_after q i ds x) h.plan_is h.ground_is) (m.does x h.standing);
      }

  pub one_call : (c : Call) (d : Desk) (r : Stores) (x : deeds.Desk) → Tries c → RatesNine x → Reached d r x →
      Reached (called c d r).desk (called c d r).rooms (desk_after p g (deeds_of c d) x)
  one_call (a_line line text) d r x t n h = after_does (deed_of (order line)) (command_left d r text (order line)) h (desk_lines.each_line d r h.on text (order line) t)
  one_call going_on d r x t n h =
      after_does _ (step_left d r) h
      (desk_lines.each_step d r h.on (ap (λ (e : Evening). length e.log.litres) (sym h.standing.at_is) ∙ nine_now x n))

  all_calls : (calls : List Call) (d : Desk) (r : Stores) (x : deeds.Desk) → AllTry calls → RatesNine x → Reached d r x →
      Reached (after_calls calls d r).0 (after_calls calls d r).1 (desk_after p g (deeds_in calls d r) x)
  unfolding after_calls deeds_in desk_after
  all_calls [] d r x t n h = h
  all_calls (c ∷ rest) d r x t n h =
      subst (Reached (after_calls rest (called c d r).desk (called c d r).rooms).0 (after_calls rest (called c d r).desk (called c d r).rooms).1)
      (sym (after_both p g (deeds_of c d) (deeds_in rest (called c d r).desk (called c d r).rooms) x))
      (all_calls rest (called c d r).desk (called c d r).rooms (desk_after p g (deeds_of c d) x) t.1 (nine_next (deeds_of c d) x n)
      (one_call c d r x t.0 n h))

module _ (d : Desk) (r : Stores) (on : OnDesk d r) (first : BeginsOn d r) where
  abbrev P : Plan
  P = plan_on d r

  abbrev G : Given
  G = ground_on d r

  abbrev E : Evening
  E = state_on d r

  pub nine_first : RatesNine P G (starts_as d r)
  nine_first ds = (stands P G E d.account first ds).follows.nine

  pub reached : (calls : List Call) → AllTry calls → Reached P G (after_calls calls d r).0 (after_calls calls d r).1 (comes_to d r calls)
  reached calls t =
      all_calls P G calls d r (starts_as d r) t nine_first (record { on = on; plan_is = refl; ground_is = refl; standing = record { at_is = refl; account_is = refl } })

  come : (calls : List Call) → AllTry calls → CallsCome d r calls (after_calls calls d r).0 (after_calls calls d r).1
  unfolding held
  come calls t =
      let h = reached calls t in
      let o = (desk_evening P G).only-standing E d.account first (deeds_in calls d r) in
      record {
        still_on = h.on;
        plan_same = h.plan_is;
        ground_same = h.ground_is;
        standing = h.standing;
        only-standing = o;
        balanced = λ q.
            ap₂ (λ (p : Plan) (e : Evening). water p e.depths + e.log.run.outflow + e.log.run.soaked) h.plan_is (sym h.standing.at_is)
            ∙ (o.balanced q ∙ ap (λ (a : Account). a.start + a.given) h.standing.account_is);
      }

  refused : (calls : List Call) (c : Call) (deed : Deed) → AllTry calls → Tries c →
      let now = after_calls calls d r in
      let l = called c now.0 now.1 in
      deeds_of c now.0 ≡ deed ∷ [] → (deed_number P G deed (comes_to d r calls) ≡ 0 → ⊥) →
      (state_on l.desk l.rooms ≡ state_on now.0 now.1) × (l.desk.account ≡ now.0.account)
  unfolding desk_after
  refused calls c deed t u is some =
      (sym next.standing.at_is ∙ (ap (λ (x : deeds.Desk). x.at) same ∙ h.standing.at_is), sym next.standing.account_is ∙ (ap (λ (x : deeds.Desk). x.account) same ∙ h.standing.account_is))
    where
      now : Desk × Stores
      now = after_calls calls d r

      h : Reached P G now.0 now.1 (comes_to d r calls)
      h = reached calls t

      next : Reached P G (called c now.0 now.1).desk (called c now.0 now.1).rooms (desk_after P G (deeds_of c now.0) (comes_to d r calls))
      next = one_call P G c now.0 now.1 (comes_to d r calls) u (nine_next P G (deeds_in calls d r) (starts_as d r) nine_first) h

      same : desk_after P G (deeds_of c now.0) (comes_to d r calls) ≡ comes_to d r calls
      same =
          ap (λ (ds : List Deed). desk_after P G ds (comes_to d r calls)) is
          ∙ (desk_evening P G).refused_stays E d.account first (deeds_in calls d r) deed some

  -- what follows some calls goes on from what they left
  calls_both : (calls more : List Call) (d : Desk) (r : Stores) → after_calls (calls ++ more) d r ≡ after_calls more (after_calls calls d r).0 (after_calls calls d r).1
  unfolding after_calls
  calls_both [] more d r = refl
  calls_both (c ∷ rest) more d r = calls_both rest more (called c d r).desk (called c d r).rooms

  deeds_both : (calls more : List Call) (d : Desk) (r : Stores) →
      deeds_in (calls ++ more) d r ≡ deeds_in calls d r ++ deeds_in more (after_calls calls d r).0 (after_calls calls d r).1
  unfolding after_calls deeds_in
  deeds_both [] more d r = refl
  deeds_both (c ∷ rest) more d r =
      ap (λ (l : List Deed). deeds_of c d ++ l) (deeds_both rest more (called c d r).desk (called c d r).rooms)
      ∙ sym (append_assoc (deeds_of c d) (deeds_in rest (called c d r).desk (called c d r).rooms) _)

  first_try : (calls more : List Call) → AllTry (calls ++ more) → AllTry calls
  first_try [] more t = tt
  first_try (c ∷ rest) more t = (t.0, first_try rest more t.1)

  pub gone : (calls trial : List Call) (line text : List ℕ) (made : List (List ℕ)) →
      AllTry (calls ++ trial) → order line ≡ Entered (Back (length made)) →
      (comes_to d r (calls ++ trial)).noted.standing ≡ made ++ (comes_to d r calls).noted.standing →
      let before = after_calls calls d r in
      let tried = after_calls (calls ++ trial) d r in
      let after = command_left tried.0 tried.1 text (order line) in
      length made ≤ tried.0.log.run.kept → AsBefore before.0 before.1 after.desk after.rooms
  unfolding deed_of desk_after lays_down
  gone calls trial line text made t asked same kept = (
    ap (λ (e : Evening). seen_of (world_of e)) (sym last.standing.at_is) ∙ (back.0 ∙ ap (λ (e : Evening). seen_of (world_of e)) b.standing.at_is),
    ap (λ (e : Evening). e.log.steps) (sym last.standing.at_is) ∙ (back.1 ∙ ap (λ (e : Evening). e.log.steps) b.standing.at_is),
    ap (λ (a : Account). a.start) (sym last.standing.account_is) ∙ (back.2 ∙ ap (λ (a : Account). a.start) b.standing.account_is),
    ap (λ (a : Account). a.given) (sym last.standing.account_is) ∙ (back.3 ∙ ap (λ (a : Account). a.given) b.standing.account_is),
  )
    where
      b : Reached P G (after_calls calls d r).0 (after_calls calls d r).1 (comes_to d r calls)
      b = reached calls (first_try calls trial t)

      tried : Desk × Stores
      tried = after_calls (calls ++ trial) d r

      m : Reached P G tried.0 tried.1 (comes_to d r (calls ++ trial))
      m = reached (calls ++ trial) t

      more : List Deed
      more = deeds_in trial (after_calls calls d r).0 (after_calls calls d r).1

      come_to : comes_to d r (calls ++ trial) ≡ desk_after P G more (comes_to d r calls)
      come_to = ap (λ (ds : List Deed). desk_after P G ds (starts_as d r)) (deeds_both calls trial d r) ∙ after_both P G (deeds_in calls d r) more (starts_as d r)

      last : Reached P G (command_left tried.0 tried.1 text (order line)).desk (command_left tried.0 tried.1 text (order line)).rooms
          (desk_with P G (going_back (length made)) (comes_to d r (calls ++ trial)))
      last =
          subst (λ (o : Order). Reached P G (command_left tried.0 tried.1 text o).desk (command_left tried.0 tried.1 text o).rooms
          (desk_with P G (going_back (length made)) (comes_to d r (calls ++ trial)))) (sym asked)
          (after_does P G (going_back (length made) ∷ []) (command_left tried.0 tried.1 text (Entered (Back (length made)))) m
          (desk_lines.each_line tried.0 tried.1 m.on text (Entered (Back (length made))) refl))

      back :
          (seen_of (world_of (desk_with P G (going_back (length made)) (comes_to d r (calls ++ trial))).at) ≡ seen_of (world_of (comes_to d r calls).at)) ×
          ((desk_with P G (going_back (length made)) (comes_to d r (calls ++ trial))).at.log.steps ≡ (comes_to d r calls).at.log.steps) ×
          ((desk_with P G (going_back (length made)) (comes_to d r (calls ++ trial))).account.start ≡ (comes_to d r calls).account.start) ×
          ((desk_with P G (going_back (length made)) (comes_to d r (calls ++ trial))).account.given ≡ (comes_to d r calls).account.given)
      back =
          subst
          (λ (x : deeds.Desk).
          (seen_of (world_of (desk_with P G (going_back (length made)) x).at) ≡ seen_of (world_of (comes_to d r calls).at)) ×
          ((desk_with P G (going_back (length made)) x).at.log.steps ≡ (comes_to d r calls).at.log.steps) ×
          ((desk_with P G (going_back (length made)) x).account.start ≡ (comes_to d r calls).account.start) ×
          ((desk_with P G (going_back (length made)) x).account.given ≡ (comes_to d r calls).account.given))
          (sym come_to)
          ((desk_taken_back P G).gone E d.account first (deeds_in calls d r) more made
          (ap (λ (x : deeds.Desk). x.noted.standing) (sym come_to) ∙ same)
          (subst (λ (k : ℕ). length made ≤ k)
          (ap (λ (e : Evening). e.log.run.kept) (sym m.standing.at_is) ∙ ap (λ (x : deeds.Desk). x.at.log.run.kept) come_to) kept))

  all_try : (calls more : List Call) → AllTry calls → AllTry more → AllTry (calls ++ more)
  all_try [] more t u = u
  all_try (c ∷ rest) more t u = (t.0, all_try rest more t.1 u)

  module _ (calls : List Call) (t : AllTry calls) (made : StepMade (after_calls calls d r).0 (after_calls calls d r).1) where
    abbrev before : Desk × Stores
    before = after_calls calls d r

    abbrev X : deeds.Desk
    X = comes_to d r calls

    h : Reached P G before.0 before.1 X
    h = reached calls t

    none : deed_number P G one_step X ≡ 0
    unfolding deed_came
    none =
        (λ j. (step_came (sym h.plan_is j) (sym h.ground_is j) (h.standing.at_is j) (h.standing.account_is j)).number)
        ∙ made.not_refused

    comes_next : comes_to d r (calls ++ (going_on ∷ [])) ≡ desk_with P G one_step X
    unfolding deeds_in desk_after
    comes_next =
        ap (λ (ds : List Deed). desk_after P G ds (starts_as d r)) (deeds_both calls (going_on ∷ []) d r)
        ∙ (after_both P G (deeds_in calls d r) (deeds_in (going_on ∷ []) before.0 before.1) (starts_as d r)
        ∙ ap (λ (ds : List Deed). desk_after P G (ds ++ []) X) made.is_next)

    stands_more : (comes_to d r (calls ++ (going_on ∷ []))).noted.standing ≡ (X.noted.litres ∷ []) ++ X.noted.standing
    unfolding desk_with noted_deed
    stands_more =
        ap (λ (x : deeds.Desk). x.noted.standing) comes_next
        ∙ ap (λ (m : Notes). m.standing) (pick_true (noted_deed one_step X.noted) X.noted (eq-eqb _ _ none))

    step_gone : (line text : List ℕ) → order line ≡ Entered (Back 1) →
        AsBefore before.0 before.1 (command_left (step_left before.0 before.1).desk (step_left before.0 before.1).rooms text (order line)).desk
        (command_left (step_left before.0 before.1).desk (step_left before.0 before.1).rooms text (order line)).rooms
    unfolding after_calls
    step_gone line text asked =
        subst (λ (now : Desk × Stores).
        AsBefore before.0 before.1 (command_left now.0 now.1 text (order line)).desk (command_left now.0 now.1 text (order line)).rooms)
        (calls_both calls (going_on ∷ []) d r)
        (gone calls (going_on ∷ []) line text (X.noted.litres ∷ []) (all_try calls (going_on ∷ []) t (tt, tt)) asked stands_more
        (omega (
          arith,
          one_kept P G E d.account first X (stands P G E d.account first (deeds_in calls d r)) none,
          ap (λ (x : deeds.Desk). x.at.log.run.kept) comes_next,
          ap (λ (e : Evening). e.log.run.kept) (reached (calls ++ (going_on ∷ [])) (all_try calls (going_on ∷ []) t (tt, tt))).standing.at_is,
        )))

-- ---- frames

module _ (d : Desk) (r : Stores) (on : OnDesk d r) where
  -- a state that is told, with its frame
  abbrev framed : Came → List ℕ
  framed c = state_text (plan_on d r) c.evening.log c.account c.evening.depths

  told_frame : (t : Told) → Sized d.heading t.evening →
      state_text (plan_on d r) t.evening.log t.account t.evening.depths ≡ frame_on (told_on d r t).desk (told_on d r t).rooms
  told_frame t z =
      ap (λ (e : Evening). state_text (plan_on d r) t.evening.log t.account e.depths) (sym (put_taken d.heading r t.evening z))

  framed_text : (before : Left) (t : Told) (end : List ℕ) → before ≡ told_on d r t → Sized d.heading t.evening →
      t.text ≡ state_text (plan_on d r) t.evening.log t.account t.evening.depths ++ end → before.text ≡ frame_on before.desk before.rooms ++ end
  framed_text before t end q z text =
      subst (λ (l : Left). l.text ≡ frame_on l.desk l.rooms ++ end) (sym q) (text ∙ ap (λ (l : List ℕ). l ++ end) (told_frame t z))

  show_frame : (text : List ℕ) → (command_left d r text Show).text ≡ frame_on d r ++ ending_text 0 0
  unfolding is_sheet order_told
  show_frame text = ap (λ (l : Left). l.text) (line_is d r on text Show refl)

  back_frame : (text : List ℕ) (count : ℕ) → (back_came (plan_on d r) (state_on d r) d.account count).number ≡ 0 →
      (command_left d r text (Entered (Back count))).text ≡
      frame_on (command_left d r text (Entered (Back count))).desk (command_left d r text (Entered (Back count))).rooms ++ ending_text 0 0
  unfolding is_sheet order_told entry_told back_told deed_came desk_after desk_with
  back_frame text count z =
      framed_text (command_left d r text (Entered (Back count))) (shown (plan_on d r) c) (ending_text 0 0)
      (line_is d r on text (Entered (Back count)) refl ∙ ap (told_on d r) (pick_true _ _ (eq-eqb _ _ z))) (sized_one d r on (going_back count ∷ []) tt)
      (ap (λ (n : ℕ). framed c ++ ending_text n 0) z)
    where
      c : Came
      c = back_came (plan_on d r) (state_on d r) d.account count

  step_frame : length d.log.litres ≡ most_hatches → d.series.on ≡ true → d.series.every ≡ true → steps_left d.series d.log.run.clock ≡ true →
      (step_came (plan_on d r) (ground_on d r) (state_on d r) d.account).number ≡ 0 → (step_left d r).text ≡ frame_on (step_left d r).desk (step_left d r).rooms
  unfolding next_told deed_came desk_after desk_with
  step_frame nine going each more z =
      subst (λ (l : Left). l.text ≡ frame_on l.desk l.rooms)
      (sym (next_is d r on going ∙ ap (told_on d r) (pick_true _ _ more ∙ pick_true _ _ (eq-eqb _ _ z))))
      (pick_true _ _ each ∙ told_frame (made_told (plan_on d r) d.series (step_came (plan_on d r) (ground_on d r) (state_on d r) d.account)) (sized_one d r on (one_step ∷ []) nine))

  end_frame : d.series.on ≡ true → d.series.every ≡ false → steps_left d.series d.log.run.clock ≡ false →
      (step_left d r).text ≡ frame_on (step_left d r).desk (step_left d r).rooms ++ ending_text 0 0
  unfolding next_told
  end_frame going each none =
      framed_text (step_left d r) (shown (plan_on d r) (came 0 (state_on d r) d.account)) (ending_text 0 0)
      (next_is d r on going ∙ ap (told_on d r) (pick_false _ _ none ∙ pick_false _ _ each)) (state_sized d r on) refl

-- ---- walls

water_same : (p : Plan) {a b : List ℕ} → Alike p.marks a b → water p a ≡ water p b
unfolding water over_open
water_same p h = sum_ext (squares p.shape) _ _ (λ i l. unless_closed p.marks i 0 (λ o. h.at i o))

state_same : (p : Plan) (log : Log) (a : Account) {x y : List ℕ} → Alike p.marks x y → state_text p log a x ≡ state_text p log a y
unfolding state_text
state_same p log a {x} {y} h =
    frame_same p.marks h (figures_of log a (kept_slots p.shape) (water p x)) log.litres p.shape
    ∙ ap (λ (n : ℕ). frame_text (figures_of log a (kept_slots p.shape) n) log.litres p.shape p.marks y) (water_same p h)

walls : (d : Desk) (r s : Stores) → OnDesk d r → OnDesk d s → plan_on d r ≡ plan_on d s → Alike (plan_on d r).marks (state_on d r).depths (state_on d s).depths →
    (text : List ℕ) → (command_left d r text Show).text ≡ (command_left d s text Show).text
walls d r s on also same alike text =
    show_frame d r on text
    ∙ (ap (λ (l : List ℕ). l ++ ending_text 0 0) (state_same (plan_on d r) d.log d.account alike ∙ ap (λ (p : Plan). state_text p d.log d.account (state_on d s).depths) same)
    ∙ sym (show_frame d s also text))

-- ---- beginnings

-- a state that a sheet began, in its own rooms
pub fresh_begins : (d : Desk) (r : Stores) (on : OnDesk d r) → d.log ≡ fresh_log d.heading → d.account ≡ account_opened (water (plan_on d r) (state_on d r).depths) 0 →
    BeginsOn d r × BalancedOn d r
unfolding fresh_run named_below pick
fresh_begins d r on fresh opens = (
  record {
    fresh =
        record {
          kept_none = ap (λ (l : Log). l.run.kept) fresh;
          newest_last = ap (λ (l : Log). l.run.newest) fresh ∙ ap (λ (k : ℕ). k - 1) (sym slots);
        };
    some = omega (arith, slots, slots_some d.heading.shape (shape-fine d r on));
    slots_few = omega (arith, slots, slots_most d.heading.shape);
    rates_suffice = omega (arith, slots, rates_are d.heading (shape-fine d r on) marks (ground_on d r) (state_on d r) (state_sized d r on));
    rates_nine = ap (λ (l : Log). length l.litres) fresh;
    account_long = ap (λ (a : Account). length a.before) opens ∙ length-replicate {A = ℕ} most_slots 0;
    table_fits =
        omega (
          arith,
          inflow_fits,
          ap (λ (l : Log). length (table_with (ground_on d r).inflow l.hatches l.litres)) fresh,
          no_rows,
          length-append (ground_on d r).inflow (hatch_rows (fresh_log d.heading).hatches (fresh_log d.heading).litres),
        );
    steps_low = omega (arith, ap (λ (l : Log). l.steps) fresh);
    given_low = omega (arith, ap (λ (a : Account). a.given) opens);
  },
  omega (arith, ap (λ (l : Log). l.run.outflow) fresh, ap (λ (l : Log). l.run.soaked) fresh, ap (λ (a : Account). a.given) opens, ap (λ (a : Account). a.start) opens),
)
  where
    marks : List ℕ
    marks = (plan_on d r).marks

    slots : room_slots (plan_on d r) (state_on d r).records ≡ kept_slots d.heading.shape
    slots = slots_are d.heading (shape-fine d r on) marks (ground_on d r) (state_on d r) (state_sized d r on)

    no_rows : length (hatch_rows (fresh_log d.heading).hatches (fresh_log d.heading).litres) ≡ 0
    no_rows = rows_long (fresh_log d.heading).hatches (fresh_log d.heading).litres {count = 0} refl

    inflow_fits : length (ground_on d r).inflow ≤ table_room inflow_kind
    inflow_fits =
        omega (arith, length-take (inflow_kind.width * d.heading.inflow_rows) r.sheet.inflow, (fine_is d.heading (ready_fine d on.ready)).inflow)

-- a sheet that was read lies on the desk
module _ (d : Desk) (r : Stores) (whole : RoomsWhole r) (text : List ℕ) (h : Heading) (read : sheet_within desk_text text r.sheet ≡ Read h) where
  pub is_well : Well text r.sheet h
  unfolding sheet_within
  is_well =
      well text r.sheet h
      (by_test (leb (length text) desk_text) (λ e. sym read ∙ pick_true _ _ e) (λ e. never_read (sym read ∙ pick_false _ _ e)))
    where
      never_read : {A : Type 0} {n l : ℕ} → Read h ≡ Refused n l → A
      never_read e = absurd (let z : ◌≡◌ {A = ℕ} 0 1 = cc in omega arith)

  heading-fine : heading_fine h ≡ true
  unfolding heading_fine heading_of rooms_fine
  heading-fine =
      subst (λ (k : Heading). heading_fine k ≡ true) (sym is_well.heading)
      (each_every _ (
        (every_each _ is_well.fine).0,
        (le-leb _ _ (rain_few text is_well.checks), (le-leb _ _ (inflow_few text is_well.checks), tt)),
      ))

  abbrev laid_sheet : Left
  laid_sheet = sheet_left text (Read h) d r

  pub sheet_on : OnDesk laid_sheet.desk laid_sheet.rooms
  unfolding sheet_left ready_number rooms_after rooms_filled cells_filled
  sheet_on =
      record {
        ready = passed_refusal _ (refl, (heading-fine, tt));
        whole =
            record {
              depths_long = length-filled _ _ _ r.sheet.cells.depths ∙ whole.depths_long;
              lasts_long = length-replicate {A = ℕ} (length r.lasts) 0 ∙ whole.lasts_long;
              records_long = whole.records_long;
              began_long = whole.began_long;
            };
      }

  sheet_begins : (bytes : ℕ) → length text ≡ bytes →
      let l = command_left d r text (Sheet bytes) in
      OnDesk l.desk l.rooms × BeginsOn l.desk l.rooms × BalancedOn l.desk l.rooms
  unfolding command_left is_sheet wanted_by sheet_left
  sheet_begins bytes whole =
      subst (λ (l : Left). OnDesk l.desk l.rooms × BeginsOn l.desk l.rooms × BalancedOn l.desk l.rooms)
      (sym (pick_true _ _ refl ∙ (pick_true _ _ (eq-eqb _ _ whole) ∙ ap (λ (s : reading.Sheet). sheet_left text s d r) read)))
      (let b = fresh_begins laid_sheet.desk laid_sheet.rooms sheet_on refl refl in (sheet_on, b.0, b.1))

-- a saved state
module _ (d : Desk) (r : Stores) (on : OnDesk d r) (text : List ℕ) where
  abbrev laid : ℕ → Laid
  laid slots = stand_of (plan_on d r) (ground_on d r).inflow slots text

  abbrev laid_at : ℕ → Evening
  laid_at slots = laid_evening (plan_on d r) (state_on d r) d.account text (laid slots).saved.log

  abbrev opens_at : ℕ → Account
  opens_at slots = account_opened (laid slots).saved.start (laid slots).saved.given

  slots : room_slots (plan_on d r) (state_on d r).records ≡ kept_slots d.heading.shape
  slots = slots_are d.heading (shape-fine d r on) (plan_on d r).marks (ground_on d r) (state_on d r) (state_sized d r on)

  laid_begins : (laid (kept_slots d.heading.shape)).number ≡ 0 →
      Begins (plan_on d r) (ground_on d r) (laid_at (kept_slots d.heading.shape)) (opens_at (kept_slots d.heading.shape))
  laid_begins = subst (λ (k : ℕ). (laid k).number ≡ 0 → Begins (plan_on d r) (ground_on d r) (laid_at k) (opens_at k)) slots by_own
    where
      own : ℕ
      own = room_slots (plan_on d r) (state_on d r).records

      by_own : (laid own).number ≡ 0 → Begins (plan_on d r) (ground_on d r) (laid_at own) (opens_at own)
      by_own z =
          (desk_evening (plan_on d r) (ground_on d r)).from_lay text (state_on d r).records (state_on d r).began
          (record { depths = (state_on d r).depths; lasts = (state_on d r).lasts }) (laid_water (plan_on d r) (state_on d r) d.account text) (laid own)
          (record { answer = refl; rooms_are = ap (λ (n : ℕ). water_after (plan_on d r) text n (record { depths = (state_on d r).depths; lasts = (state_on d r).lasts })) (sym z) }) z
          (omega (arith, slots, slots_most d.heading.shape))
          (omega (arith, slots, rates_are d.heading (shape-fine d r on) (plan_on d r).marks (ground_on d r) (state_on d r) (state_sized d r on)))

  lay_begins : (bytes : ℕ) → length text ≡ bytes → length text ≤ desk_text → (laid (kept_slots d.heading.shape)).number ≡ 0 →
      let l = command_left d r text (Lay bytes) in
      OnDesk l.desk l.rooms × BeginsOn l.desk l.rooms
  unfolding lay_told water_after water_from
  lay_begins bytes whole few z =
      subst (λ (l : Left). OnDesk l.desk l.rooms × BeginsOn l.desk l.rooms)
      (sym (lay_is d r on text bytes
      ∙ ap (told_on d r) (pick_true _ _ (each_every _ (eq-eqb _ _ whole, (le-leb _ _ few, tt))) ∙ pick_true _ _ (eq-eqb _ _ z)))) (
        told-on d r on t sized,
        subst (λ (e : Evening). Begins (plan_on d r) (ground_on d r) e t.account) (sym (put_taken d.heading r t.evening sized)) (laid_begins z),
      )
    where
      t : Told
      t = shown (plan_on d r) (came 0 (laid_at (kept_slots d.heading.shape)) (opens_at (kept_slots d.heading.shape)))

      sized : Sized d.heading t.evening
      sized =
          let z = state_sized d r on in
          record {
            depths = length-filled _ _ _ (state_on d r).depths ∙ z.depths;
            lasts = length-filled _ _ _ (state_on d r).lasts ∙ z.lasts;
            records = z.records;
            began = z.began;
          }

pub desk_calls : DeskCalls
desk_calls =
    record {
      sheet_begins = λ d r rooms text bytes h whole read. sheet_begins d r rooms text h read bytes whole;
      come = λ d r on first calls t. come d r on first calls t;
      refused = λ d r on first calls c deed t u is some. refused d r on first calls c deed t u is some;
      gone = λ d r on first calls trial line text made t asked same kept. gone d r on first calls trial line text made t asked same kept;
      step_gone = λ d r on first calls line text t asked made. step_gone d r on first calls t made line text asked;
      lay_begins = λ d r on text bytes whole few z. lay_begins d r on text bytes whole few z;
      show_frame = λ d r on text. show_frame d r on text;
      back_frame = λ d r on text count z. back_frame d r on text count z;
      step_frame = λ d r on nine going each more z. step_frame d r on nine going each more z;
      end_frame = λ d r on going each none. end_frame d r on going each none;
      walls = λ d r s on also same alike text. walls d r s on also same alike text;
    }
