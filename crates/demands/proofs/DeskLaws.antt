-- An evening at the desk is the first state with only the standing steps: deed after deed its page goes with a series of calls, as the hatch log's
-- does, and the account's slots with the ring of records.
-- Assumes nothing.
use mathlib.Core.Path.{◌≡◌, refl, sym, ap, ap₂, subst, ◌∙◌}
use mathlib.Core.Bool.{Bool, true, false}
use mathlib.Core.List.{List, [], ◌∷◌, ◌++◌, map}
use Prim.Native.Nat.{ℕ, zero, suc, ◌+◌, ◌-◌, ◌*◌, ◌≤◌, ◌<◌}
use native.Mathlib.Omega.{arith}
use Rattle.std.proofs.Common.{Option, Some, None}
use native.Mathlib.Decide.{ℕ_discrete}
use lib.Dec.{eqb}
use lib.ListN.{length, get_or, set, drop, length-append, length-map, length-set, length-replicate}
use lib.Seq.{get_or-set_same, get_or-set_other, drop-append_seam}
use borrow.Author.Tests.{eq-eqb, leb-true, le-leb, lt-leb}
use Rattle.reckon.specs.Tests.{pick, refusal}
use Rattle.reckon.specs.Tables.{inflow_kind, table_room}
use Rattle.reckon.specs.Ranges.{most_depth, most_outflow, most_soaked}
use Rattle.reckon.proofs.TestLaws.{pick_true, pick_false, not_both, every_each, each_every, refusal_passed, passed_refusal, refusal_here, refusal_later}
use Rattle.reckon.proofs.ListLaws.{sum_le}
use Rattle.trials.specs.Ring.{slots_in, slot_before, slot_after, slot_ago, kept_after}
use Rattle.trials.proofs.RingLaws.{fine_ring, after_below, before-after, ago_none, ago_more, ago_other}
use Rattle.grid.specs.Squares.{squares, most_squares}
use Rattle.ledger.specs.Runs.{Plan, World, Seen, seen_of, run_fine, run_values_fine}
use Rattle.ledger.specs.Record.{room_slots, ring_of}
use Rattle.ledger.specs.Flows.{shut}
use Rattle.ledger.specs.Account.{over_open, water, held}
use Rattle.ledger.specs.declared.runs.Run.{Run}
use Rattle.ledger.specs.declared.runs.Answer.TheVariants.{Done}
use Rattle.rule.specs.declared.rules.Rules.{Rules}
use Rattle.ledger.specs.TakeBack.{back_number, taken_back}
use Rattle.checks.specs.Given.{Given}
use Rattle.checks.specs.Inner.Ready.{Ready}
use Rattle.checks.specs.Fresh.{fresh_number, fresh_run, Freshens}
use Rattle.checks.proofs.CheckLaws.{ready}
use Rattle.checks.proofs.FreshLaws.{fresh-slots}
use Rattle.adding.specs.Account.{tables_give}
use Rattle.flood.specs.Step.{step_number, stepped}
use Rattle.flood.specs.Run.{Ended, go_on}
use Rattle.flood.proofs.RunToLaws.{checks_passed, still_valid, clock_on}
use Rattle.hatches.specs.Log.{Evening, evening, opened, most_hatches, hatch_rows, table_with, line_fine, draw_fine, standing_fine, kept_fine, hatch_named, rates_kept}
use Rattle.hatches.proofs.RatesLaws.{beside-step}
use Rattle.hatches.proofs.RowLaws.{named_below, rows_long}
use Rattle.hatches.proofs.RefusalLaws.{back_kept, standing_is}
use Rattle.hatches.specs.declared.log.Hatches.{Hatches}
use Rattle.evenings.specs.Taking.{drawn, world_of, back_from, after_hatch, after_back}
use Rattle.evenings.proofs.BackLaws.{done_is, backs, Backed, backed}
use Rattle.evenings.proofs.RingSteps.{Moved, step_moved, Returned, back_returned}
use Rattle.stands.specs.Laying.{most_given, head_of, named_from, with_hatch, if_hatch, hatch_added, hatch_fields, draws_fine, state_fine, saved_from, checks_of, number_of, stand_of}
use Rattle.stands.specs.declared.saved.Laid.{Laid}
use Rattle.text.specs.Reading.{line_of}
use Rattle.text.specs.declared.reading.Fields.{Fields}
use Rattle.hatches.specs.Lines.{hatch_word}
use Rattle.trying.specs.Given.{most_slots, account_opened}
use Rattle.trying.specs.Lines.{Came, came, name_refusals, log_at, try_refusals, step_given, evening_next, account_next, world_next, back_refusals, given_back, nothing_given}
use Rattle.trying.specs.declared.given.Account.{Account}
use Rattle.demands.specs.Demand3.{stepping, Trail, start, called, series, alone, AllMade}
use Rattle.demands.specs.Account.{all_given}
use Rattle.demands.specs.HatchLog.{Notes, notes, noted_back, noted_with, Page}
use Rattle.demands.specs.Desk.{Deed, naming, drawing, one_step, going_back, Desk, at_first, noted_deed, deed_came, deed_number, desk_with, desk_after, givens_of, Begins, Balanced, OnlyStanding, DeskEvening, DeskTakenBack, Turn, at_one, at_other, in_turn, of_one, of_other, TwoDesks}
use Rattle.demands.proofs.Demand3.{demand_3}
use Rattle.demands.proofs.Account.{alone_balance, fresh_holds}
use Rattle.demands.proofs.Deeds.{name_number, name_made, name_refused, draw_number, draw_made, draw_refused, try_number, own_number, step_unfit, step-refused, step_made, account_ago, back_refused, back_taken, desk_stays, desk_made, named_with, named-after}
use Rattle.demands.proofs.HatchLaws.{beside_same, drop_more, series_snoc, trail, never, Goes, goes_whole, Follows, follow_back, follow_hatch, seen-alone}

-- ---- lists

map_dropped : {A B : Type 0} (f : A → B) (n : ℕ) (l : List A) → drop n (map f l) ≡ map f (drop n l)
map_dropped f zero l = refl
map_dropped f (suc n) [] = refl
map_dropped f (suc n) (a ∷ l) = map_dropped f n l

-- ---- rows with one hatch more

named-before : (named : List Bool) (k n : ℕ) → n ≤ k → named_below (set named k true) n ≡ named_below named n
unfolding named_below
named-before named k zero h = refl
named-before named k (suc n) h =
    ap₂ (λ (a : ℕ) (b : Bool). a + pick b 1 0) (named-before named k n (omega arith)) (get_or-set_other named k n true false (λ e. omega (arith, e)))

named-once : (named : List Bool) (k n : ℕ) → named_below (set named k true) n ≤ named_below named n + 1
unfolding named_below pick
named-once named k zero = omega arith
named-once named k (suc n) = go (ℕ_discrete n k) (named-once named k n)
  where
    low : (b : Bool) → pick b 1 0 ≤ 1
    low true = omega arith
    low false = omega arith

    go : Dec (n ≡ k) → named_below (set named k true) n ≤ named_below named n + 1 →
        named_below (set named k true) n + pick (get_or (set named k true) n false) 1 0 ≤ named_below named n + pick (get_or named n false) 1 0 + 1
    go (yes e) h = omega (arith, named-before named k n (omega (arith, e)), low (get_or (set named k true) n false))
    go (no d) h = rw (get_or-set_other named k n true false d) (omega (arith, h))

-- whatever the rates are
rows_same : (hs : Hatches) (l m : List ℕ) → length (hatch_rows hs l) ≡ length (hatch_rows hs m)
rows_same hs l m = rows_long hs l refl ∙ sym (rows_long hs m refl)

table_same : (inflow : List ℕ) (hs : Hatches) (l m : List ℕ) → length (table_with inflow hs l) ≡ length (table_with inflow hs m)
table_same inflow hs l m = omega (arith, length-append inflow (hatch_rows hs l), length-append inflow (hatch_rows hs m), rows_same hs l m)

-- ---- take-backs that are all made

whole_steps : (p : Plan) (n made : ℕ) (w : World) → (back_from p n made w).number ≡ 0 → (back_from p n made w).steps ≡ made + n
unfolding back_from go_on
whole_steps p zero made w e = omega arith
whole_steps p (suc n) made w e = go (back_number p w) e (whole_steps p n (suc made) (taken_back p w))
  where
    go : (k : ℕ) → (go_on k made w (back_from p n (suc made) (taken_back p w))).number ≡ 0 →
        ((back_from p n (suc made) (taken_back p w)).number ≡ 0 → (back_from p n (suc made) (taken_back p w)).steps ≡ suc made + n) →
        (go_on k made w (back_from p n (suc made) (taken_back p w))).steps ≡ made + suc n
    go zero h ih = omega (arith, ih h)
    go (suc k) h ih = absurd (omega (arith, h))

-- ---- the notes and the account after take-backs

back_standing : (n : ℕ) (m : Notes) → (noted_back n m).standing ≡ drop n m.standing
unfolding noted_back
back_standing zero m = refl
back_standing (suc n) m = refl

given-start : (a : Account) (slots newest n : ℕ) → (given_back a slots newest n).start ≡ a.start
unfolding given_back
given-start a slots newest zero = refl
given-start a slots newest (suc n) = refl

given-slots : (a : Account) (slots newest n : ℕ) → (given_back a slots newest n).before ≡ a.before
unfolding given_back
given-slots a slots newest zero = refl
given-slots a slots newest (suc n) = refl

-- ---- steps alone: the clock of each goes on, and what they were given fits the account

pub after-step : (p : Plan) (g : Given) (w : World) → step_number p g w ≡ 0 → Ready p g (seen_of (stepped p g w))
after-step p g w z = ready p g (ring_of p (stepped p g w)) (seen_of (stepped p g w)) (still_valid p g w (checks_passed p g w z) z)

few_times : (n : ℕ) → n ≤ most_squares → n * most_depth ≤ most_squares * most_depth
few_times n h = omega arith

pub most_water : (p : Plan) (g : Given) (v : Seen) → Ready p g v → water p v.depths ≤ most_squares * most_depth
unfolding water over_open
most_water p g v r =
    omega (
      arith,
      sum_le (squares p.shape) most_depth (λ i. pick (shut p i) 0 (get_or v.depths i 0)) square_most,
      few_times (squares p.shape) r.waters.fine.few,
    )
  where
    square_most : (i : ℕ) → i < squares p.shape → pick (shut p i) 0 (get_or v.depths i 0) ≤ most_depth
    square_most i l = go (shut p i) refl
      where
        go : (c : Bool) → shut p i ≡ c → pick (shut p i) 0 (get_or v.depths i 0) ≤ most_depth
        go true q = omega (arith, pick_true 0 (get_or v.depths i 0) q)
        go false q = omega (arith, pick_false 0 (get_or v.depths i 0) q, r.flows.lies.depths_to i l q)

most_held : (p : Plan) (g : Given) (w : World) → Ready p g (seen_of w) → held p w ≤ most_squares * most_depth + most_outflow + most_soaked
unfolding held
most_held p g w r = omega (arith, r.outflow_to, r.soaked_to, most_water p g (seen_of w) r)

module _ (p : Plan) (f : World) where
  alone_clock : (gs : List Given) → AllMade p gs f → f.run.clock + length gs ≤ (alone p gs f).run.clock
  unfolding alone
  alone_clock [] made = omega arith
  alone_clock (g ∷ gs) made =
      omega (arith, alone_clock gs made.1, clock_on p g (alone p gs f) (checks_passed p g (alone p gs f) made.0) made.0)

  -- what is given is held, or was held before
  pub given_fits : (gs : List Given) → AllMade p gs f → (start given : ℕ) → given ≤ most_given → held p f ≡ start + given → given + all_given p gs f ≤ most_given
  unfolding alone all_given
  given_fits [] made start given low balanced = omega arith
  given_fits (g ∷ gs) made start given low balanced =
      omega (arith, alone_balance p (g ∷ gs) f made, most_held p g (stepped p g (alone p gs f)) (after-step p g (alone p gs f) made.0), balanced)

module _ (p : Plan) (g : Given) (e₀ : Evening) (a₀ : Account) (first : Begins p g e₀ a₀) where
  abbrev pub f : World
  f = world_of e₀

  abbrev pub K : ℕ
  K = room_slots p e₀.records

  -- ---- a step

  goes_step : {hs : Hatches} {w : World} {began : List ℕ} {standing : List (List ℕ)} (litres : List ℕ) → length litres ≡ most_hatches →
      step_number p (drawn g hs litres) w ≡ 0 → Goes p g f first.fresh hs w began standing →
      Goes p g f first.fresh hs (stepped p (drawn g hs litres) w) (rates_kept (room_slots p w.records) 1 w.run.newest litres began) (litres ∷ standing)
  unfolding rates_kept
  goes_step {hs} {w} {began} {standing} litres nine z x =
      record {
        calls = x.calls ++ (stepping G ∷ []);
        world_is = ap (λ (y : Trail p). y.at) snoc ∙ ap (stepped p G) x.world_is;
        standing_is =
            ap (λ (y : Trail p). y.standing) snoc
            ∙ (pick_true _ _ (eq-eqb _ _ (subst (λ (v : World). step_number p G v ≡ 0) (sym x.world_is) z)) ∙ ap (λ (l : List Given). G ∷ l) x.standing_is);
        beside =
            beside_same (sym (m.kept_is ∙ ap (λ (k : ℕ). kept_after k w.run.kept) x.slots_are))
            (sym (m.newest_is ∙ ap (λ (k : ℕ). slot_after k w.run.newest) x.slots_are))
            (ap (λ (k : ℕ). rates_kept k 1 w.run.newest litres began) (sym x.slots_are)) refl
            (beside-step x.beside litres nine);
        slots_are = m.slots_are ∙ x.slots_are;
      }
    where
      G : Given
      G = drawn g hs litres

      snoc : trail p g f first.fresh (x.calls ++ (stepping G ∷ [])) ≡ called p (stepping G) (trail p g f first.fresh x.calls)
      snoc = series_snoc p x.calls (stepping G) (start p f)

      m : Moved p w (stepped p G w)
      m = step_moved p G w z

  -- ---- what had been given before each kept step lies in the slot of its record

  pub record Spent (w : World) (before : List ℕ) (gs : List Given) : Type 0 where
    pub long : length before ≡ most_slots
    pub given-before : (j : ℕ) → j < w.run.kept → get_or before (slot_ago K w.run.newest j) 0 ≡ a₀.given + all_given p (drop (suc j) gs) f

  spent_one : {w : World} {before : List ℕ} {gs : List Given} → back_number p w ≡ 0 → room_slots p w.records ≡ K → Spent w before gs →
      Spent (taken_back p w) before (drop 1 gs)
  spent_one {w} {before} {gs} z s x =
      let r : Returned p w (taken_back p w) = back_returned p w z in
      record {
        long = x.long;
        given-before = λ j h.
            ap (λ (k : ℕ). get_or before (slot_ago K k j) 0) (r.newest_is ∙ ap (λ (k : ℕ). slot_before k w.run.newest) s)
            ∙ (ap (λ (k : ℕ). get_or before k 0) (sym (ago_more K w.run.newest j))
            ∙ (x.given-before (suc j) (omega (arith, h, r.kept_is)) ∙ ap (λ (l : List Given). a₀.given + all_given p l f) (sym (drop_more (suc j) gs))));
      }

  spent_backs : (n : ℕ) (w : World) {before : List ℕ} {gs : List Given} → ((k : ℕ) → k < n → back_number p (backs p k w) ≡ 0) → room_slots p w.records ≡ K →
      Spent w before gs → Spent (backs p n w) before (drop n gs)
  unfolding backs
  spent_backs zero w each s x = x
  spent_backs (suc n) w {before} {gs} each s x =
      let z : back_number p w ≡ 0 = each 0 (omega arith) in
      subst (Spent (backs p n (taken_back p w)) before) (drop_more n gs)
      (spent_backs n (taken_back p w) (λ k h. each (suc k) (omega arith)) ((back_returned p w z).slots_are ∙ s) (spent_one z s x))

  spent_step : {w v : World} {before : List ℕ} {gs : List Given} (G : Given) (given : ℕ) → Moved p w v → w.run.newest < K → room_slots p w.records ≡ K →
      given ≡ a₀.given + all_given p gs f → Spent w before gs →
      Spent v (set before (slot_after (room_slots p w.records) w.run.newest) given) (G ∷ gs)
  spent_step {w} {v} {before} {gs} G given m below s is x =
      subst (λ (k : ℕ). Spent v (set before (slot_after k w.run.newest) given) (G ∷ gs)) (sym s)
      (record { long = length-set before new given ∙ x.long; given-before = λ j h. ap (λ (k : ℕ). get_or (set before new given) (slot_ago K k j) 0) newest ∙ at j (omega (arith, h, kept)) })
    where
      new : ℕ
      new = slot_after K w.run.newest

      new_below : new < K
      new_below = after_below K w.run.newest first.some

      newest : v.run.newest ≡ new
      newest = m.newest_is ∙ ap (λ (k : ℕ). slot_after k w.run.newest) s

      kept : v.run.kept ≡ kept_after K w.run.kept
      kept = m.kept_is ∙ ap (λ (k : ℕ). kept_after k w.run.kept) s

      older : (i : ℕ) → slot_ago K new (suc i) ≡ slot_ago K w.run.newest i
      older i = ago_more K new i ∙ ap (λ (k : ℕ). slot_ago K k i) (before-after K w.run.newest below)

      at : (j : ℕ) → j < kept_after K w.run.kept → get_or (set before new given) (slot_ago K new j) 0 ≡ a₀.given + all_given p (drop (suc j) (G ∷ gs)) f
      at zero h =
          ap (λ (k : ℕ). get_or (set before new given) k 0) (ago_none K new)
          ∙ (get_or-set_same before new given 0 (omega (arith, new_below, first.slots_few, x.long)) ∙ is)
      at (suc i) h =
          ap (λ (k : ℕ). get_or (set before new given) k 0) (older i)
          ∙ (get_or-set_other before new (slot_ago K w.run.newest i) given 0 (λ e. ago_other K i new new_below (omega arith) (older i ∙ e))
          ∙ x.given-before i (omega arith))

  -- ---- a page

  abbrev pub page_of : Desk → Page p g
  page_of x = record { at = x.at; noted = x.noted }

  pub record Stands (x : Desk) : Type 0 where
    pub follows : Follows p g f first.fresh e₀.log.steps (page_of x)
    pub start_is : x.account.start ≡ a₀.start
    pub given_is : x.account.given ≡ a₀.given + all_given p (givens_of p g x) f
    pub spent : Spent (world_of x.at) x.account.before (givens_of p g x)
    pub table_fits : length (table_with g.inflow x.at.log.hatches x.at.log.litres) ≤ table_room inflow_kind

  seen_is : (x : Page p g) → Follows p g f first.fresh e₀.log.steps x →
      seen_of (world_of x.at) ≡ seen_of (alone p (map (drawn g x.at.log.hatches) x.noted.standing) f)
  seen_is x h =
      sym (ap (λ (w : World). seen_of w) h.goes.world_is)
      ∙ (seen-alone p f first.fresh h.goes.calls ∙ ap (λ (l : List Given). seen_of (alone p l f)) h.goes.standing_is)

  clock_is : (x : Page p g) → Follows p g f first.fresh e₀.log.steps x →
      x.at.log.run.clock ≡ (alone p (map (drawn g x.at.log.hatches) x.noted.standing) f).run.clock
  clock_is x h = ap (λ (v : Seen). v.clock) (seen_is x h)

  pub stands_first : Stands (at_first e₀ a₀)
  unfolding series all_given
  stands_first =
      record {
        follows =
            record {
              goes =
                  record {
                    calls = [];
                    world_is = refl;
                    standing_is = refl;
                    beside =
                        record {
                          some = first.some;
                          kept_fits = omega (arith, first.fresh.kept_none);
                          newest_below = omega (arith, first.fresh.newest_last, first.some);
                          room = first.rates_suffice;
                          few = omega (arith, first.fresh.kept_none);
                          rates = λ j h. absurd (omega (arith, first.fresh.kept_none));
                        };
                    slots_are = refl;
                  };
              litres_are = refl;
              nine = first.rates_nine;
              opening_none = λ _. refl;
              steps_are = omega arith;
            };
        start_is = refl;
        given_is = omega arith;
        spent = record { long = first.account_long; given-before = λ j h. absurd (omega (arith, first.fresh.kept_none)) };
        table_fits = first.table_fits;
      }

  -- ---- a deed

  refused_deed : (d : Deed) (x : Desk) {n : ℕ} → deed_came p g d x.at x.account ≡ came n x.at x.account → (n ≡ 0 → ⊥) → Stands x → Stands (desk_with p g d x)
  refused_deed d x q z h = subst Stands (sym (desk_stays p g d x q z)) h

  made_deed : (d : Deed) (x : Desk) {e : Evening} {a : Account} → deed_came p g d x.at x.account ≡ came 0 e a →
      Stands (record { at = e; account = a; noted = noted_deed d x.noted }) → Stands (desk_with p g d x)
  made_deed d x q h = subst Stands (sym (desk_made p g d x q)) h

  module _ (x : Desk) (h : Stands x) where
    abbrev e : Evening
    e = x.at

    abbrev a : Account
    a = x.account

    abbrev m : Notes
    m = x.noted

    abbrev hs : Hatches
    hs = e.log.hatches

    abbrev gs : List Given
    gs = givens_of p g x

    -- ---- `hatch`

    named : (n row column : ℕ) → refusal (name_refusals p g.lie.rules g.inflow e.log n row column) ≡ 0 →
        Stands (record { at = after_hatch p g e n row column; account = a; noted = m })
    unfolding after_hatch line_fine draw_fine
    named n row column z =
        let t = refusal_passed _ tt z in
        let o : e.log.opening ≡ true = (every_each _ t.0).0 in
        let none = h.follows.opening_none o in
        let after = (hatch_named e.log n row column).hatches in
        let fits : length (table_with g.inflow hs e.log.litres) + inflow_kind.width ≤ table_room inflow_kind = leb-true _ _ (every_each _ t.1.0).1.1.1.0 in
        record {
          follows = follow_hatch p g f first.fresh (page_of x) h.follows n row column o;
          start_is = h.start_is;
          given_is =
              h.given_is
              ∙ ap (λ (l : List Given). a₀.given + all_given p l f) (ap (map (drawn g hs)) none ∙ sym (ap (map (drawn g after)) none));
          spent =
              record {
                long = h.spent.long;
                given-before = λ j l. absurd (omega (arith, l, h.follows.goes.beside.few, ap (λ (s : List (List ℕ)). length s) none));
              };
          table_fits =
              omega (
                arith,
                fits,
                length-append g.inflow (hatch_rows hs e.log.litres),
                length-append g.inflow (hatch_rows after e.log.litres),
                rows_long hs e.log.litres refl,
                rows_long after e.log.litres refl,
                named-once hs.named (n - 1) most_hatches,
              );
        }

    by_naming : (n row column : ℕ) → Stands (desk_with p g (naming n row column) x)
    unfolding noted_deed after_hatch
    by_naming n row column = go (ℕ_discrete (name_number p g e a n row column) 0)
      where
        go : Dec (name_number p g e a n row column ≡ 0) → Stands (desk_with p g (naming n row column) x)
        go (yes z) = made_deed (naming n row column) x (name_made p g e a n row column z) (named n row column z)
        go (no d) = refused_deed (naming n row column) x (name_refused p g e a n row column d) d h

    -- ---- `draw`

    drawn-at : (n litres : ℕ) →
        Stands (record {
          at = evening e.depths e.lasts e.records e.began (log_at e.log (set e.log.litres (n - 1) litres));
          account = a;
          noted = notes (set m.litres (n - 1) litres) m.standing;
        })
    drawn-at n litres =
        record {
          follows =
              record {
                goes = h.follows.goes;
                litres_are = ap (λ (l : List ℕ). set l (n - 1) litres) h.follows.litres_are;
                nine = length-set e.log.litres (n - 1) litres ∙ h.follows.nine;
                opening_none = h.follows.opening_none;
                steps_are = h.follows.steps_are;
              };
          start_is = h.start_is;
          given_is = h.given_is;
          spent = h.spent;
          table_fits = omega (arith, h.table_fits, table_same g.inflow hs (set e.log.litres (n - 1) litres) e.log.litres);
        }

    by_drawing : (n litres : ℕ) → Stands (desk_with p g (drawing n litres) x)
    unfolding noted_deed
    by_drawing n litres = go (ℕ_discrete (draw_number p g e a n litres) 0)
      where
        go : Dec (draw_number p g e a n litres ≡ 0) → Stands (desk_with p g (drawing n litres) x)
        go (yes z) = made_deed (drawing n litres) x (draw_made p g e a n litres z) (drawn-at n litres)
        go (no d) = refused_deed (drawing n litres) x (draw_refused p g e a n litres d) d h

    -- ---- a step

    abbrev G : Given
    G = step_given p g e a

    module _ (z : step_number p G (world_of e) ≡ 0) where
      next : Follows p g f first.fresh e₀.log.steps (record { at = evening_next p g e a; noted = notes m.litres (m.litres ∷ m.standing) })
      next =
          record {
            goes =
                subst (λ (l : List ℕ). Goes p g f first.fresh hs (world_next p g e a) (rates_kept (room_slots p e.records) 1 e.log.run.newest e.log.litres e.began) (l ∷ m.standing))
                h.follows.litres_are (goes_step e.log.litres h.follows.nine z h.follows.goes);
            litres_are = h.follows.litres_are;
            nine = h.follows.nine;
            opening_none = λ y. not_both y refl;
            steps_are = omega (arith, h.follows.steps_are);
          }

      gave : tables_give p G e.log.run.clock (world_next p g e a).run.clock
          ≡ tables_give p (drawn g hs m.litres) (alone p gs f).run.clock (alone p (drawn g hs m.litres ∷ gs) f).run.clock
      gave =
          ap₂ (λ (t u : ℕ). tables_give p G t u) (clock_is (page_of x) h.follows) (clock_is _ next)
          ∙ ap (λ (l : List ℕ). tables_give p (drawn g hs l) (alone p gs f).run.clock (alone p (drawn g hs m.litres ∷ gs) f).run.clock) h.follows.litres_are

      made_step : Stands (record { at = evening_next p g e a; account = account_next p g e a; noted = notes m.litres (m.litres ∷ m.standing) })
      unfolding all_given
      made_step =
          record {
            follows = next;
            start_is = h.start_is;
            given_is = omega (arith, h.given_is, gave);
            spent =
                spent_step (drawn g hs m.litres) a.given (step_moved p G (world_of e) z) h.follows.goes.beside.newest_below
                h.follows.goes.slots_are h.given_is h.spent;
            table_fits = h.table_fits;
          }

    by_step : Stands (desk_with p g one_step x)
    unfolding noted_deed
    by_step = go (ℕ_discrete (try_number p g e a) 0) (ℕ_discrete (own_number p g e a) 0)
      where
        go : Dec (try_number p g e a ≡ 0) → Dec (own_number p g e a ≡ 0) → Stands (desk_with p g one_step x)
        go (no d) _ = refused_deed one_step x (step_unfit p g e a d) d h
        go (yes z) (no d) = refused_deed one_step x (step-refused p g e a z d) d h
        go (yes z) (yes y) = made_deed one_step x (step_made p g e a z y) (made_step y)

    -- ---- `back`

    abbrev taken : ℕ → Ended
    taken count = back_from p count 0 (world_of e)

    module _ (count : ℕ) (l : count ≤ e.log.run.kept) where
      pub none_refused : (taken count).number ≡ 0
      none_refused = goes_whole p g f first.fresh count 0 l h.follows.goes

      all_taken : (taken count).steps ≡ count
      all_taken = omega (arith, whole_steps p count 0 (world_of e) none_refused)

      pub back_is : Backed p count 0 (world_of e) (taken count)
      back_is = backed p count 0 (world_of e)

      pub more_is : back_is.more ≡ count
      more_is = omega (arith, all_taken, back_is.steps_are)

      fewer : drop count gs ≡ map (drawn g hs) (noted_back count m).standing
      fewer = map_dropped (drawn g hs) count m.standing ∙ ap (map (drawn g hs)) (sym (back_standing count m))

      given_now : (k : ℕ) → k ≤ e.log.run.kept → (given_back a (room_slots p e.records) e.log.run.newest k).given ≡ a₀.given + all_given p (drop k gs) f
      unfolding given_back
      given_now zero le = h.given_is
      given_now (suc j) le = ap (λ (k : ℕ). get_or a.before (slot_ago k e.log.run.newest j) 0) h.follows.goes.slots_are ∙ h.spent.given-before j le

      made_back : Stands (record { at = after_back p nothing_given e count; account = account_ago p g e a count; noted = noted_back count m })
      unfolding after_back noted_with
      made_back =
          record {
            follows =
                subst (λ (k : ℕ). Follows p g f first.fresh e₀.log.steps (record { at = after_back p g e count; noted = noted_back k m })) all_taken
                (follow_back p g f first.fresh (page_of x) h.follows count l);
            start_is = given-start a _ _ (taken count).steps ∙ h.start_is;
            given_is =
                ap (λ (k : ℕ). (given_back a (room_slots p e.records) e.log.run.newest k).given) all_taken
                ∙ (given_now count l ∙ ap (λ (r : List Given). a₀.given + all_given p r f) fewer);
            spent =
                subst (λ (r : List ℕ). Spent (taken count).world r (map (drawn g hs) (noted_back count m).standing)) (sym (given-slots a _ _ (taken count).steps))
                (subst (λ (w : World). Spent w a.before (map (drawn g hs) (noted_back count m).standing)) (sym back_is.world_is)
                (subst (Spent (backs p back_is.more (world_of e)) a.before) (ap (λ (k : ℕ). drop k gs) more_is ∙ fewer)
                (spent_backs back_is.more (world_of e) back_is.each_made h.follows.goes.slots_are h.spent)));
            table_fits = omega (arith, h.table_fits, table_same g.inflow hs (after_back p nothing_given e count).log.litres e.log.litres);
          }

    by_back : (count : ℕ) → Stands (desk_with p g (going_back count) x)
    unfolding noted_deed back_refusals
    by_back count = go (ℕ_discrete (refusal (back_refusals e.log count)) 0)
      where
        go : Dec (refusal (back_refusals e.log count) ≡ 0) → Stands (desk_with p g (going_back count) x)
        go (no d) = refused_deed (going_back count) x (back_refused p g e a count d) d h
        go (yes z) =
            let l = back_kept e.log count (refusal_passed _ tt z).1.0 in
            made_deed (going_back count) x (back_taken p g e a count z (none_refused count l)) (made_back count l)

    pub by_deed : (d : Deed) → Stands (desk_with p g d x)
    by_deed (naming n row column) = by_naming n row column
    by_deed (drawing n litres) = by_drawing n litres
    by_deed one_step = by_step
    by_deed (going_back count) = by_back count

  stands_from : (deeds : List Deed) (x : Desk) → Stands x → Stands (desk_after p g deeds x)
  unfolding desk_after
  stands_from [] x h = h
  stands_from (d ∷ rest) x h = stands_from rest _ (by_deed x h d)

  pub stands : (deeds : List Deed) → Stands (desk_after p g deeds (at_first e₀ a₀))
  stands deeds = stands_from deeds (at_first e₀ a₀) stands_first

  -- ---- what holds of each page

  module _ (x : Desk) (h : Stands x) where
    all_made : AllMade p (givens_of p g x) f
    all_made = subst (λ (l : List Given). AllMade p l f) h.follows.goes.standing_is (never p g f first.fresh h.follows.goes.calls).all_made

    -- what is held is what the standing steps alone hold
    same_held : held p (world_of x.at) ≡ held p (alone p (givens_of p g x) f)
    unfolding held
    same_held =
        let seen = seen_is (page_of x) h.follows in
        ap₂ (λ (a b : ℕ). a + b)
        (ap₂ (λ (d : List ℕ) (o : ℕ). water p d + o) (ap (λ (v : Seen). v.depths) seen) (ap (λ (v : Seen). v.outflow) seen))
        (ap (λ (v : Seen). v.soaked) seen)

    pub only-standing : OnlyStanding p g e₀ a₀ x
    only-standing =
        record {
          rates_are = h.follows.litres_are;
          steps_are = h.follows.steps_are;
          all_made = all_made;
          same_seen = seen_is (page_of x) h.follows;
          kept_low = h.follows.goes.beside.few;
          start_is = h.start_is;
          given_is = h.given_is;
          balanced = λ q. omega (arith, same_held, alone_balance p (givens_of p g x) f all_made, q, h.start_is, h.given_is);
        }

    pub standing-fine : standing_fine x.at.log ≡ true
    unfolding standing_fine
    standing-fine =
        let steps = h.follows.steps_are in
        let low : x.at.log.steps ≤ x.at.log.run.clock = omega (arith, steps, alone_clock p f (givens_of p g x) all_made, clock_is (page_of x) h.follows, length-map x.noted.standing (drawn g x.at.log.hatches), first.steps_low) in
        let kept : x.at.log.run.kept ≤ x.at.log.steps = omega (arith, steps, h.follows.goes.beside.few) in
        each_every _ (le-leb _ _ kept, (le-leb _ _ low, tt))

    back-number : (count : ℕ) → count ≤ x.at.log.run.kept → refusal (back_refusals x.at.log count) ≡ 0
    unfolding back_refusals kept_fine
    back-number count l = passed_refusal (back_refusals x.at.log count) (standing-fine, (le-leb _ _ l, tt))

    pub back_made : (count : ℕ) → count ≤ x.at.log.run.kept →
        deed_came p g (going_back count) x.at x.account ≡ came 0 (after_back p nothing_given x.at count) (account_ago p g x.at x.account count)
    back_made count l = back_taken p g x.at x.account count (back-number count l) (none_refused x h count l)

    back_whole : (count : ℕ) → count ≤ x.at.log.run.kept → deed_number p g (going_back count) x ≡ 0
    back_whole count l = ap (λ (c : Came). c.number) (back_made count l)

    back_beyond : (count : ℕ) → x.at.log.run.kept < count → deed_number p g (going_back count) x ≡ 10
    unfolding back_refusals kept_fine
    back_beyond count l =
        let ten : refusal (back_refusals x.at.log count) ≡ 10 = refusal_later 6 _ standing-fine ∙ refusal_here 10 _ (lt-leb _ _ l) in
        ap (λ (c : Came). c.number) (back_refused p g x.at x.account count (λ z. omega (arith, ten, z))) ∙ ten

    step-alone : Balanced p g e₀ a₀ → deed_number p g one_step x ≡ own_number p g x.at x.account
    unfolding try_refusals
    step-alone q = go (ℕ_discrete (own_number p g x.at x.account) 0)
      where
        given_low : x.account.given ≤ most_given
        given_low = omega (arith, h.given_is, given_fits p f (givens_of p g x) all_made a₀.start a₀.given first.given_low q)

        fits : try_number p g x.at x.account ≡ 0
        fits =
            passed_refusal (try_refusals g.inflow x.at.log x.account) (le-leb _ _ h.table_fits, (standing-fine, (le-leb _ _ given_low, tt)))

        go : Dec (own_number p g x.at x.account ≡ 0) → deed_number p g one_step x ≡ own_number p g x.at x.account
        go (yes z) = ap (λ (c : Came). c.number) (step_made p g x.at x.account fits z) ∙ sym z
        go (no d) = ap (λ (c : Came). c.number) (step-refused p g x.at x.account fits d)

    -- what is refused changes nothing: where a `back` has begun, it is made
    refused_stays : (d : Deed) → (deed_number p g d x ≡ 0 → ⊥) → desk_with p g d x ≡ x
    unfolding back_refusals
    refused_stays (naming n row column) some = go (ℕ_discrete (name_number p g x.at x.account n row column) 0)
      where
        go : Dec (name_number p g x.at x.account n row column ≡ 0) → desk_with p g (naming n row column) x ≡ x
        go (yes z) = absurd (some (ap (λ (c : Came). c.number) (name_made p g x.at x.account n row column z)))
        go (no d) = desk_stays p g (naming n row column) x (name_refused p g x.at x.account n row column d) d
    refused_stays (drawing n litres) some = go (ℕ_discrete (draw_number p g x.at x.account n litres) 0)
      where
        go : Dec (draw_number p g x.at x.account n litres ≡ 0) → desk_with p g (drawing n litres) x ≡ x
        go (yes z) = absurd (some (ap (λ (c : Came). c.number) (draw_made p g x.at x.account n litres z)))
        go (no d) = desk_stays p g (drawing n litres) x (draw_refused p g x.at x.account n litres d) d
    refused_stays one_step some = go (ℕ_discrete (try_number p g x.at x.account) 0) (ℕ_discrete (own_number p g x.at x.account) 0)
      where
        go : Dec (try_number p g x.at x.account ≡ 0) → Dec (own_number p g x.at x.account ≡ 0) → desk_with p g one_step x ≡ x
        go (no d) _ = desk_stays p g one_step x (step_unfit p g x.at x.account d) d
        go (yes z) (no d) = desk_stays p g one_step x (step-refused p g x.at x.account z d) d
        go (yes z) (yes y) = absurd (some (ap (λ (c : Came). c.number) (step_made p g x.at x.account z y)))
    refused_stays (going_back count) some = go (ℕ_discrete (refusal (back_refusals x.at.log count)) 0)
      where
        go : Dec (refusal (back_refusals x.at.log count) ≡ 0) → desk_with p g (going_back count) x ≡ x
        go (yes z) = absurd (some (back_whole count (back_kept x.at.log count (refusal_passed _ tt z).1.0)))
        go (no d) = desk_stays p g (going_back count) x (back_refused p g x.at x.account count d) d

-- ---- a trial taken back

module _ (p : Plan) (g : Given) (e : Evening) (a : Account) (b : Begins p g e a) (deeds trial : List Deed) (made : List (List ℕ)) where
  abbrev before : Desk
  before = desk_after p g deeds (at_first e a)

  abbrev later : Desk
  later = desk_after p g trial before

  abbrev after : Desk
  after = desk_with p g (going_back (length made)) later

  before_stands : Stands p g e a b before
  before_stands = stands p g e a b deeds

  later_stands : Stands p g e a b later
  later_stands = stands_from p g e a b trial before before_stands

  after_stands : Stands p g e a b after
  after_stands = by_deed p g e a b later later_stands (going_back (length made))

  module _ (same : later.noted.standing ≡ made ++ before.noted.standing) (l : length made ≤ later.at.log.run.kept) where
    as_before : after.noted.standing ≡ before.noted.standing
    unfolding desk_with noted_deed
    as_before =
        ap (λ (m : Notes). m.standing) (pick_true _ _ (eq-eqb _ _ (back_whole p g e a b later later_stands (length made) l)))
        ∙ (back_standing (length made) later.noted ∙ (ap (λ (s : List (List ℕ)). drop (length made) s) same ∙ drop-append_seam made before.noted.standing))

    -- each at the same hatches, or none stands
    same_givens : givens_of p g after ≡ givens_of p g before
    same_givens = go before.at.log.opening refl
      where
        go : (o : Bool) → before.at.log.opening ≡ o → givens_of p g after ≡ givens_of p g before
        go true q =
            let none = before_stands.follows.opening_none q in
            ap (map (drawn g after.at.log.hatches)) (as_before ∙ none) ∙ sym (ap (map (drawn g before.at.log.hatches)) none)
        go false q =
            let n = named_with p g (going_back (length made)) later (named-after p g trial before (record { same = refl; over = q })) in
            ap₂ (λ (hs : Hatches) (s : List (List ℕ)). map (drawn g hs) s) n.same as_before

    gone : (seen_of (world_of after.at) ≡ seen_of (world_of before.at)) ×
        (after.at.log.steps ≡ before.at.log.steps) ×
        (after.account.start ≡ before.account.start) ×
        (after.account.given ≡ before.account.given)
    gone =
        let x = only-standing p g e a b before before_stands in
        let y = only-standing p g e a b after after_stands in (
          y.same_seen ∙ (ap (λ (s : List Given). seen_of (alone p s (world_of e))) same_givens ∙ sym x.same_seen),
          y.steps_are ∙ (ap (λ (s : List (List ℕ)). length s + e.log.steps) as_before ∙ sym x.steps_are),
          y.start_is ∙ sym x.start_is,
          y.given_is ∙ (ap (λ (s : List Given). a.given + all_given p s (world_of e)) same_givens ∙ sym x.given_is),
        )

-- ---- a sheet's fresh run

module _ (p : Plan) (g : Given) (r : Rules) (depths records before lasts began : List ℕ) (u : Run) (freshly : Freshens p r before records (Done u) lasts) where
  number_none : fresh_number p r before records ≡ 0
  number_none = sym (done_is (fresh_number p r before records) (fresh_run r (room_slots p records)) u freshly.answer).1

  no_rows : length (hatch_rows (opened u).hatches (opened u).litres) ≡ 0
  unfolding named_below pick
  no_rows = rows_long (opened u).hatches (opened u).litres {count = 0} refl

  sheet_begins : room_slots p records ≤ most_slots → room_slots p records ≤ slots_in most_hatches (length began) → length g.inflow ≤ table_room inflow_kind →
      Begins p g (evening depths lasts records began (opened u)) (account_opened (water p depths) 0)
  sheet_begins few rates fits =
      record {
        fresh = (demand_3 p).fresh_is r depths records before lasts u freshly;
        some = let d : room_slots p records ≡ 0 → ⊥ = fresh-slots p r before records number_none in omega arith;
        slots_few = few;
        rates_suffice = rates;
        rates_nine = refl;
        account_long = length-replicate {A = ℕ} most_slots 0;
        table_fits = omega (arith, fits, no_rows, length-append g.inflow (hatch_rows (opened u).hatches (opened u).litres));
        steps_low = omega arith;
        given_low = omega arith;
      }

  sheet_balanced : Balanced p g (evening depths lasts records began (opened u)) (account_opened (water p depths) 0)
  sheet_balanced = omega (arith, fresh_holds p r depths records before lasts u freshly [])

-- ---- a state laid down

nine_laid : (s : List ℕ) (q n : ℕ) → length (named_from s q n).litres ≡ most_hatches
unfolding named_from with_hatch if_hatch pick
nine_laid s q zero = refl
nine_laid s q (suc n) = go (line_of s (named_from s q n).next hatch_word hatch_fields) (nine_laid s q n)
  where
    by : (f : Fields) (c : Bool) → length (named_from s q n).litres ≡ most_hatches →
        length (pick c (hatch_added (named_from s q n) n f) (named_from s q n)).litres ≡ most_hatches
    by f true h = length-set (named_from s q n).litres n (get_or f.values 3 0) ∙ h
    by f false h = h

    go : (f : Option Fields) → length (named_from s q n).litres ≡ most_hatches → length (if_hatch (named_from s q n) n f).litres ≡ most_hatches
    go (Some f) h = by f (eqb (get_or f.values 0 0) (n + 1)) h
    go None h = h

checks_none : (line number : ℕ) → number_of line number ≡ 0 → number ≡ 0
unfolding number_of
checks_none zero number e = e
checks_none (suc line) number e = absurd (omega (arith, e))

module _ (p : Plan) (g : Given) (s records began depths lasts : List ℕ) where
  abbrev slots : ℕ
  slots = room_slots p records

  lay_begins : (stand_of p g.inflow slots s).number ≡ 0 → slots ≤ most_slots → slots ≤ slots_in most_hatches (length began) →
      let l = stand_of p g.inflow slots s in
      Begins p g (evening depths lasts records began l.saved.log) (account_opened l.saved.start l.saved.given)
  unfolding stand_of checks_of draws_fine state_fine run_fine run_values_fine saved_from
  lay_begins z few rates =
      let t = refusal_passed _ tt (checks_none _ _ z) in
      let draws = every_each _ t.1.0 in
      let states = every_each _ t.1.1.0 in
      record {
        fresh = record { kept_none = refl; newest_last = refl };
        some = (fine_ring _ _ _ (every_each _ states.0).0).some;
        slots_few = few;
        rates_suffice = rates;
        rates_nine = nine_laid s (head_of s).next most_hatches;
        account_long = length-replicate {A = ℕ} most_slots 0;
        table_fits = leb-true _ _ draws.1.0;
        steps_low = (standing_is _ states.1.0).1;
        given_low = leb-true _ _ states.1.1.1.0;
      }

-- ---- the theorems

module _ (p : Plan) (g : Given) where
  pub desk_evening : DeskEvening p g
  desk_evening =
      record {
        only-standing = λ e a b deeds. only-standing p g e a b (desk_after p g deeds (at_first e a)) (stands p g e a b deeds);
        back_whole = λ e a b deeds count l. back_whole p g e a b (desk_after p g deeds (at_first e a)) (stands p g e a b deeds) count l;
        back_beyond = λ e a b deeds count l. back_beyond p g e a b (desk_after p g deeds (at_first e a)) (stands p g e a b deeds) count l;
        refused_stays = λ e a b deeds d some. refused_stays p g e a b (desk_after p g deeds (at_first e a)) (stands p g e a b deeds) d some;
        step-alone = λ e a b q deeds. step-alone p g e a b (desk_after p g deeds (at_first e a)) (stands p g e a b deeds) q;
        from_sheet = λ r depths records before lasts began u freshly few rates fits.
            (sheet_begins p g r depths records before lasts began u freshly few rates fits, sheet_balanced p g r depths records before lasts began u freshly);
        from_lay = λ s records began before after l lays z few rates.
            subst (λ (k : Laid). Begins p g (evening after.depths after.lasts records began k.saved.log) (account_opened k.saved.start k.saved.given)) (sym lays.answer)
            (lay_begins p g s records began after.depths after.lasts (sym (ap (λ (k : Laid). k.number) lays.answer) ∙ z) few rates);
      }

  pub desk_taken_back : DeskTakenBack p g
  desk_taken_back = record { gone = λ e a b deeds trial made same l. gone p g e a b deeds trial made same l }

-- ---- two desks

module _ (p : Plan) (g : Given) (q : Plan) (h : Given) where
  apart : (turns : List Turn) (x y : Desk) → in_turn p g q h turns x y ≡ (desk_after p g (of_one turns) x, desk_after q h (of_other turns) y)
  unfolding in_turn of_one of_other desk_after
  apart [] x y = refl
  apart (at_one d ∷ rest) x y = apart rest (desk_with p g d x) y
  apart (at_other d ∷ rest) x y = apart rest x (desk_with q h d y)

  pub two_desks : TwoDesks p g q h
  two_desks = record { apart = apart }
