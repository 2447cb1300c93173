-- An evening of lines leaves no mark: line after line the page goes with a series of calls, of which demand 3 holds, and the ring of rates with
-- the ring of records.
-- Assumes nothing.
use mathlib.Core.Path.{◌≡◌, refl, sym, ap, ap₂, subst, ◌∙◌}
use mathlib.Core.Bool.{true}
use mathlib.Core.List.{List, [], ◌∷◌, ◌++◌, map}
use Prim.Native.Nat.{ℕ, zero, suc, ◌+◌, ◌-◌, ◌≤◌, ◌<◌}
use native.Mathlib.Omega.{arith}
use lib.Dec.{eqb}
use Rattle.std.specs.Prelude.{Option, Some, None}
use lib.ListN.{length, get_or, set, replicate, drop, length-append, length-drop, length-set, length-replicate}
use native.Mathlib.Decide.{ℕ_discrete}
use borrow.Author.Tests.{eq-eqb, ne_eqb}
use Rattle.reckon.specs.Tests.{pick, refusal}
use Rattle.reckon.proofs.TestLaws.{pick_true, pick_false, pick_both, not_both, every_each}
use Rattle.trials.specs.Ring.{slot_before, slot_ago}
use Rattle.trials.specs.Room.{record_in}
use Rattle.trials.proofs.RingLaws.{ago_below}
use Rattle.ledger.specs.Runs.{Plan, World, Seen, seen_of}
use Rattle.ledger.specs.Record.{room_slots}
use Rattle.ledger.specs.TakeBack.{back_number, taken_back}
use Rattle.ledger.specs.declared.runs.Run.{Run}
use Rattle.checks.specs.Given.{Given}
use Rattle.flood.specs.Run.{Ended, go_on, run_to}
use Rattle.answer.specs.Printed.{totals_text, made_text}
use Rattle.hatches.specs.Log.{Evening, most_hatches, rates_kept, line_fine, entry_refusals, rates_back}
use Rattle.evenings.specs.Taking.{world_of, drawn, entry_number, steps_number, line_run, further, back_from, after_hatch, after_rate, after_back, entered, after_entry, after_read}
use Rattle.evenings.specs.Shown.{stands_text}
use Rattle.hatches.proofs.RefusalLaws.{entered_is, back_kept}
use Rattle.evenings.proofs.BackLaws.{backs, Backed, backed}
use Rattle.hatches.specs.declared.lines.Entry.{Entry}
use Rattle.hatches.specs.declared.lines.Entry.TheVariants.{Hatch, Rate, Back}
use Rattle.hatches.specs.declared.log.Hatches.{Hatches}
use Rattle.demands.specs.Demand3.{Call, running, taking_back, Trail, start, called, series, alone, AllMade, Fresh, NeverMade}
use Rattle.demands.specs.HatchLog.{Notes, noted_back, noted_with, noted_after, Page, first_page, page_after, only_standing, LeavesNoMark, Opens, HatchLog, SeasonUntouched}
use Rattle.hatches.specs.Inner.Rates.{newest_after, kept_steps, Beside}
use Rattle.demands.proofs.LineClock.{line_clock}
use Rattle.demands.proofs.Demand3.{demand_3}
use Rattle.hatches.proofs.RatesLaws.{beside_steps, beside_back, nine_in}
use Rattle.evenings.proofs.RingSteps.{run_made, steps_further, Returned, back_returned}

-- ---- lists

map_many : {A B : Type 0} (f : A → B) (n : ℕ) (a : A) (l : List A) → replicate {A = B} n (f a) ++ map f l ≡ map f (replicate {A = A} n a ++ l)
map_many f zero a l = refl
map_many f (suc n) a l = ap (λ (r : List _). f a ∷ r) (map_many f n a l)

map-drop : {A B : Type 0} (f : A → B) (l : List A) → drop 1 (map f l) ≡ map f (drop 1 l)
map-drop f [] = refl
map-drop f (a ∷ l) = refl

drop_none : {A : Type 0} (n : ℕ) → drop {A = A} n [] ≡ []
drop_none zero = refl
drop_none (suc n) = refl

pub drop_more : {A : Type 0} (n : ℕ) (l : List A) → drop n (drop 1 l) ≡ drop (suc n) l
drop_more n [] = drop_none n
drop_more n (a ∷ l) = refl

pub beside_same : {K kept kept' newest newest' : ℕ} {began began' : List ℕ} {s s' : List (List ℕ)} → kept ≡ kept' → newest ≡ newest' → began ≡ began' → s ≡ s' →
    Beside K kept newest began s → Beside K kept' newest' began' s'
beside_same {K} {kept} {kept'} {newest} {newest'} {began} {began'} {s} {s'} a b c d x =
    subst (λ (k : ℕ). Beside K k newest' began' s') a
    (subst (λ (k : ℕ). Beside K kept k began' s') b (subst (λ (l : List ℕ). Beside K kept newest l s') c (subst (Beside K kept newest began) d x)))

made_same : (p : Plan) {d d' : List ℕ} (u u' : Run) {s s' : ℕ} → d ≡ d' → u.outflow ≡ u'.outflow → u.soaked ≡ u'.soaked → u.clock ≡ u'.clock → s ≡ s' →
    made_text p d u s ≡ made_text p d' u' s'
unfolding made_text totals_text
made_same p u u' a b c e f = rw (a, b, c, e, f)

module _ (p : Plan) where
  pub series_snoc : (cs : List Call) (c : Call) (x : Trail p) → series p (cs ++ (c ∷ [])) x ≡ called p c (series p cs x)
  unfolding series
  series_snoc [] c x = refl
  series_snoc (b ∷ cs) c x = series_snoc cs c (called p b x)

module _ (p : Plan) (g : Given) (f : World) (fresh : Fresh p f) where
  abbrev pub K : ℕ
  K = room_slots p f.records

  abbrev pub trail : List Call → Trail p
  trail cs = series p cs (start p f)

  pub never : (cs : List Call) → NeverMade p f (trail cs)
  never cs = (demand_3 p).never_made f fresh cs

  -- Where a world, its hatches and the rates of the standing steps go with a series of calls.
  pub record Goes (hs : Hatches) (w : World) (began : List ℕ) (standing : List (List ℕ)) : Type 0 where
    pub calls : List Call
    pub world_is : (trail calls).at ≡ w
    pub standing_is : (trail calls).standing ≡ map (drawn g hs) standing
    pub beside : Beside K w.run.kept w.run.newest began standing
    pub slots_are : room_slots p w.records ≡ K

  -- ---- a line's steps

  goes_run : {hs : Hatches} {w : World} {began : List ℕ} {standing : List (List ℕ)} (clock : ℕ) (litres : List ℕ) → length litres ≡ most_hatches → Goes hs w began standing →
      let r = run_to p (drawn g hs litres) clock w in
      Goes hs r.world (rates_kept (room_slots p w.records) r.steps w.run.newest litres began) (replicate {A = List ℕ} r.steps litres ++ standing)
  goes_run {hs} {w} {began} {standing} clock litres nine x =
      record {
        calls = x.calls ++ (running G clock ∷ []);
        world_is = ap (λ (y : Trail p). y.at) snoc ∙ ap (λ (v : World). (run_to p G clock v).world) x.world_is;
        standing_is =
            ap (λ (y : Trail p). y.standing) snoc
            ∙ (ap₂ (λ (v : World) (l : List Given). replicate {A = Given} (run_to p G clock v).steps G ++ l) x.world_is x.standing_is
            ∙ map_many (drawn g hs) r.steps litres standing);
        beside =
            beside_same (sym (fur_kept ∙ ap (λ (k : ℕ). kept_steps k r.steps w.run.kept) x.slots_are))
            (sym (fur_newest ∙ ap (λ (k : ℕ). newest_after k r.steps w.run.newest) x.slots_are))
            (ap (λ (k : ℕ). rates_kept k r.steps w.run.newest litres began) (sym x.slots_are)) refl
            (beside_steps r.steps K w.run.kept w.run.newest began standing litres nine x.beside);
        slots_are = fur_slots ∙ x.slots_are;
      }
    where
      G : Given
      G = drawn g hs litres

      r : Ended
      r = run_to p G clock w

      snoc : trail (x.calls ++ (running G clock ∷ [])) ≡ called p (running G clock) (trail x.calls)
      snoc = series_snoc p x.calls (running G clock) (start p f)

      fur_newest : r.world.run.newest ≡ newest_after (room_slots p w.records) r.steps w.run.newest
      fur_newest = ap (λ (v : World). v.run.newest) (run_made p G clock w).world_is ∙ (steps_further p G w r.steps (run_made p G clock w).each_made).newest_is

      fur_kept : r.world.run.kept ≡ kept_steps (room_slots p w.records) r.steps w.run.kept
      fur_kept = ap (λ (v : World). v.run.kept) (run_made p G clock w).world_is ∙ (steps_further p G w r.steps (run_made p G clock w).each_made).kept_is

      fur_slots : room_slots p r.world.records ≡ room_slots p w.records
      fur_slots = ap (λ (v : World). room_slots p v.records) (run_made p G clock w).world_is ∙ (steps_further p G w r.steps (run_made p G clock w).each_made).slots_are

  -- ---- take-backs

  goes_one : {hs : Hatches} {w : World} {began : List ℕ} {standing : List (List ℕ)} → 1 ≤ w.run.kept → Goes hs w began standing → Goes hs (taken_back p w) began (drop 1 standing)
  goes_one {hs} {w} {began} {standing} h x =
      record {
        calls = x.calls ++ (taking_back ∷ []);
        world_is = ap (λ (y : Trail p). y.at) snoc ∙ ap (taken_back p) x.world_is;
        standing_is =
            ap (λ (y : Trail p). y.standing) snoc
            ∙ (pick_true _ _ (eq-eqb _ _ none) ∙ (ap (λ (l : List Given). drop 1 l) x.standing_is ∙ map-drop (drawn g hs) standing));
        beside =
            beside_same (sym back.kept_is) (sym (back.newest_is ∙ ap (λ (k : ℕ). slot_before k w.run.newest) x.slots_are)) refl refl
            (beside_back (subst (λ (k : ℕ). Beside K k w.run.newest began standing) (omega arith) x.beside));
        slots_are = back.slots_are ∙ x.slots_are;
      }
    where
      snoc : trail (x.calls ++ (taking_back ∷ [])) ≡ called p taking_back (trail x.calls)
      snoc = series_snoc p x.calls taking_back (start p f)

      none : back_number p (trail x.calls).at ≡ 0
      none = (never x.calls).back_made (subst (λ (v : World). 0 < v.run.kept) (sym x.world_is) (omega arith))

      back : Returned p w (taken_back p w)
      back = back_returned p w (subst (λ (v : World). back_number p v ≡ 0) x.world_is none)

  goes_backs : {hs : Hatches} (n : ℕ) {w : World} {began : List ℕ} {standing : List (List ℕ)} → n ≤ w.run.kept → Goes hs w began standing → Goes hs (backs p n w) began (drop n standing)
  unfolding backs
  goes_backs {hs} zero h x = x
  goes_backs {hs} (suc n) {w} {began} {standing} h x =
      let one = goes_one (omega arith) x in
      let k : (taken_back p w).run.kept ≡ w.run.kept - 1 = (back_returned p w (number x)).kept_is in
      subst (Goes hs (backs p n (taken_back p w)) began) (drop_more n standing) (goes_backs n (omega (arith, k)) one)
    where
      number : (x : Goes hs w began standing) → back_number p w ≡ 0
      number x =
          subst (λ (v : World). back_number p v ≡ 0) x.world_is
          ((never x.calls).back_made (subst (λ (v : World). 0 < v.run.kept) (sym x.world_is) (omega arith)))

  -- while a step is kept, no take-back is refused
  pub goes_whole : {hs : Hatches} (n made : ℕ) {w : World} {began : List ℕ} {standing : List (List ℕ)} → n ≤ w.run.kept → Goes hs w began standing → (back_from p n made w).number ≡ 0
  unfolding back_from go_on
  goes_whole zero made h x = refl
  goes_whole {hs} (suc n) made {w} {began} {standing} h x =
      let z : back_number p w ≡ 0 = subst (λ (v : World). back_number p v ≡ 0) x.world_is ((never x.calls).back_made (subst (λ (v : World). 0 < v.run.kept) (sym x.world_is) (omega arith))) in
      let k : (taken_back p w).run.kept ≡ w.run.kept - 1 = (back_returned p w z).kept_is in
      ap (λ (m : ℕ). (go_on m made w (back_from p n (suc made) (taken_back p w))).number) z
      ∙ goes_whole n (suc made) (omega (arith, k)) (goes_one (omega arith) x)

  -- ---- a page

  -- so many steps stood before the first line
  pub record Follows (earlier : ℕ) (x : Page p g) : Type 0 where
    pub goes : Goes x.at.log.hatches (world_of x.at) x.at.began x.noted.standing
    pub litres_are : x.at.log.litres ≡ x.noted.litres
    pub nine : length x.at.log.litres ≡ most_hatches
    pub opening_none : x.at.log.opening ≡ true → x.noted.standing ≡ []
    pub steps_are : x.at.log.steps ≡ length x.noted.standing + earlier

  follow_first : (began : List ℕ) → Opens p g f began → Follows 0 (first_page p g f began)
  unfolding series
  follow_first began o =
      record {
        goes =
            record {
              calls = [];
              world_is = refl;
              standing_is = refl;
              beside =
                  record {
                    some = o.some;
                    kept_fits = omega (arith, fresh.kept_none);
                    newest_below = omega (arith, fresh.newest_last, o.some);
                    room = o.rates_suffice;
                    few = omega (arith, fresh.kept_none);
                    rates = λ j h. absurd (omega (arith, fresh.kept_none));
                  };
              slots_are = refl;
            };
        litres_are = refl;
        nine = refl;
        opening_none = λ _. refl;
        steps_are = refl;
      }

  module _ {earlier : ℕ} (x : Page p g) (h : Follows earlier x) where
    abbrev e : Evening
    e = x.at

    abbrev m : Notes
    m = x.noted

    follow_rate : (clock n litres : ℕ) → Follows earlier (record { at = after_rate p g e clock n litres; noted = noted_with p g e (Rate clock n litres) m })
    unfolding after_rate noted_with
    follow_rate clock n litres =
        record {
          goes =
              subst (Goes e.log.hatches (line_run p g e clock).world (rates_kept (room_slots p e.records) (line_run p g e clock).steps e.log.run.newest e.log.litres e.began))
              (ap (λ (l : List ℕ). replicate {A = List ℕ} (line_run p g e clock).steps l ++ m.standing) h.litres_are)
              (goes_run clock e.log.litres h.nine h.goes);
          litres_are = ap (λ (l : List ℕ). pick (eqb (line_run p g e clock).number 0) (set l (n - 1) litres) l) h.litres_are;
          nine =
              pick_both (λ (l : List ℕ). length l ≡ most_hatches) (eqb (line_run p g e clock).number 0)
              (length-set e.log.litres (n - 1) litres ∙ h.nine) h.nine;
          opening_none = λ y. not_both y refl;
          steps_are =
              omega (
                arith,
                h.steps_are,
                length-append (replicate {A = List ℕ} (line_run p g e clock).steps m.litres) m.standing,
                length-replicate {A = List ℕ} (line_run p g e clock).steps m.litres,
              );
        }

    abbrev back_at : ℕ → World → Page p g
    back_at k w =
        record {
          at = further p g e w (e.log.steps - k) (rates_back (room_slots p e.records) e.began e.log k) e.began;
          noted = noted_back k m;
        }

    follow_none : Follows earlier (back_at 0 (world_of e))
    unfolding rates_back noted_back
    follow_none =
        record {
          goes = h.goes;
          litres_are = h.litres_are;
          nine = h.nine;
          opening_none = λ y. not_both y refl;
          steps_are = omega (arith, h.steps_are);
        }

    follow_some : (n : ℕ) → suc n ≤ e.log.run.kept → Follows earlier (back_at (suc n) (backs p (suc n) (world_of e)))
    unfolding rates_back noted_back
    follow_some n l =
        let b = h.goes.beside in
        let s = h.goes.slots_are in
        let same : record_in most_hatches e.began (slot_ago (room_slots p e.records) e.log.run.newest n) ≡ get_or m.standing n [] = ap (λ (k : ℕ). record_in most_hatches e.began (slot_ago k e.log.run.newest n)) s ∙ b.rates n l in
        record {
          goes = goes_backs (suc n) l h.goes;
          litres_are = same;
          nine =
              ap (λ (k : ℕ). length (record_in most_hatches e.began (slot_ago k e.log.run.newest n))) s
              ∙ nine_in e.began (slot_ago K e.log.run.newest n) (omega (arith, ago_below K n e.log.run.newest b.newest_below, b.room));
          opening_none = λ y. not_both y refl;
          steps_are = omega (arith, h.steps_are, b.few, length-drop (suc n) m.standing);
        }

    follow_backs : (k : ℕ) → k ≤ e.log.run.kept → Follows earlier (back_at k (backs p k (world_of e)))
    unfolding backs
    follow_backs zero l = follow_none
    follow_backs (suc n) l = follow_some n l

    pub follow_back : (count : ℕ) → count ≤ e.log.run.kept → Follows earlier (record { at = after_back p g e count; noted = noted_with p g e (Back count) m })
    unfolding after_back noted_with
    follow_back count l =
        let b : Backed p count 0 (world_of e) (back_from p count 0 (world_of e)) = backed p count 0 (world_of e) in
        let s : (back_from p count 0 (world_of e)).steps ≡ b.more = omega (arith, b.steps_are) in
        subst (λ (k : ℕ). Follows earlier (back_at k (back_from p count 0 (world_of e)).world)) (sym s)
        (subst (λ (w : World). Follows earlier (back_at b.more w)) (sym b.world_is) (follow_backs b.more (omega (arith, b.few))))

    pub follow_hatch : (n row column : ℕ) → e.log.opening ≡ true → Follows earlier (record { at = after_hatch p g e n row column; noted = m })
    unfolding after_hatch
    follow_hatch n row column o =
        let none = h.opening_none o in
        record {
          goes =
              record {
                calls = h.goes.calls;
                world_is = h.goes.world_is;
                standing_is =
                    h.goes.standing_is
                    ∙ (ap (map (drawn g e.log.hatches)) none ∙ sym (ap (map (drawn g (after_hatch p g e n row column).log.hatches)) none));
                beside = h.goes.beside;
                slots_are = h.goes.slots_are;
              };
          litres_are = h.litres_are;
          nine = h.nine;
          opening_none = λ _. none;
          steps_are = h.steps_are;
        }

    -- a line that is not refused before its steps
    follow_made : (entry : Entry) → refusal (entry_refusals p g e entry) ≡ 0 → Follows earlier (record { at = entered p g e entry; noted = noted_with p g e entry m })
    unfolding entered noted_with line_fine
    follow_made (Hatch n row column) z = follow_hatch n row column (every_each _ (entered_is p g e (Hatch n row column) z).line).0
    follow_made (Rate clock n litres) z = follow_rate clock n litres
    follow_made (Back count) z = follow_back count (back_kept e.log count (entered_is p g e (Back count) z).kept)

    -- any line
    follow_line : (entry : Entry) → Follows earlier (record { at = after_entry p g e entry; noted = noted_after p g e (Some entry) m })
    unfolding after_entry noted_after
    follow_line entry = go (ℕ_discrete (refusal (entry_refusals p g e entry)) 0)
      where
        go : Dec (refusal (entry_refusals p g e entry) ≡ 0) →
            Follows earlier (record {
              at = pick (eqb (refusal (entry_refusals p g e entry)) 0) (entered p g e entry) e;
              noted = pick (eqb (refusal (entry_refusals p g e entry)) 0) (noted_with p g e entry m) m;
            })
        go (yes z) =
            let y = eq-eqb _ _ z in
            subst (λ (a : Evening). Follows earlier (record { at = a; noted = pick (eqb (refusal (entry_refusals p g e entry)) 0) (noted_with p g e entry m) m })) (sym (pick_true _ _ y))
            (subst (λ (o : Notes). Follows earlier (record { at = entered p g e entry; noted = o })) (sym (pick_true _ _ y)) (follow_made entry z))
        go (no d) =
            let y = ne_eqb _ _ d in
            subst (λ (a : Evening). Follows earlier (record { at = a; noted = pick (eqb (refusal (entry_refusals p g e entry)) 0) (noted_with p g e entry m) m })) (sym (pick_false _ _ y))
            (subst (λ (o : Notes). Follows earlier (record { at = e; noted = o })) (sym (pick_false _ _ y)) h)

    -- a `back` that is not refused before is made whole
    whole_back : (count : ℕ) → refusal (entry_refusals p g e (Back count)) ≡ 0 → entry_number p g e (Back count) ≡ 0
    unfolding entry_number steps_number
    whole_back count z = pick_true _ _ (eq-eqb _ _ z) ∙ goes_whole count 0 (back_kept e.log count (entered_is p g e (Back count) z).kept) h.goes

  -- one that cannot be read changes nothing
  follow_read : (x : Page p g) → Follows 0 x → (entry : Option Entry) → Follows 0 (record { at = after_read p g x.at entry; noted = noted_after p g x.at entry x.noted })
  unfolding noted_after
  follow_read x h (Some entry) = follow_line x h entry
  follow_read x h None = h

  follow_all : (lines : List (Option Entry)) (x : Page p g) → Follows 0 x → Follows 0 (page_after p g lines x)
  unfolding page_after
  follow_all [] x h = h
  follow_all (entry ∷ rest) x h = follow_all rest _ (follow_read x h entry)

  -- ---- so nothing but the standing steps is left

  leaves : (x : Page p g) → Follows 0 x → LeavesNoMark p g f x
  leaves x h =
      let cs = h.goes.calls in
      let nm = never cs in
      let w = h.goes.world_is in
      let s = h.goes.standing_is in
      let depths : x.at.depths ≡ (only_standing p g f x).depths = sym (ap (λ (v : World). v.depths) w) ∙ (nm.same_depths ∙ ap (λ (l : List Given). (alone p l f).depths) s) in
      let clock : x.at.log.run.clock ≡ (only_standing p g f x).run.clock = sym (ap (λ (v : World). v.run.clock) w) ∙ (nm.same_clock ∙ ap (λ (l : List Given). (alone p l f).run.clock) s) in
      let outflow : x.at.log.run.outflow ≡ (only_standing p g f x).run.outflow = sym (ap (λ (v : World). v.run.outflow) w) ∙ (nm.same_outflow ∙ ap (λ (l : List Given). (alone p l f).run.outflow) s) in
      let soaked : x.at.log.run.soaked ≡ (only_standing p g f x).run.soaked = sym (ap (λ (v : World). v.run.soaked) w) ∙ (nm.same_soaked ∙ ap (λ (l : List Given). (alone p l f).run.soaked) s) in
      record {
        rates_are = h.litres_are;
        steps_are = omega (arith, h.steps_are);
        all_made = subst (λ (l : List Given). AllMade p l f) s nm.all_made;
        same_depths = depths;
        same_lasts = sym (ap (λ (v : World). v.lasts) w) ∙ (nm.same_lasts ∙ ap (λ (l : List Given). (alone p l f).lasts) s);
        same_clock = clock;
        same_length = sym (ap (λ (v : World). v.run.length) w) ∙ (nm.same_length ∙ ap (λ (l : List Given). (alone p l f).run.length) s);
        same_outflow = outflow;
        same_soaked = soaked;
        printed = made_same p x.at.log.run (only_standing p g f x).run depths outflow soaked clock (omega (arith, h.steps_are));
        kept_low = h.goes.beside.few;
      }

-- ---- the theorems

module _ (p : Plan) (g : Given) where
  follows : (f : World) (began : List ℕ) (o : Opens p g f began) (lines : List (Option Entry)) → Follows p g f o.fresh 0 (page_after p g lines (first_page p g f began))
  follows f began o lines = follow_all p g f o.fresh lines (first_page p g f began) (follow_first p g f o.fresh began o)

  gone : (f : World) (began : List ℕ) (o : Opens p g f began) (lines : List (Option Entry)) → (page_after p g lines (first_page p g f began)).noted.standing ≡ [] →
      stands_text p (page_after p g lines (first_page p g f began)).at ≡ made_text p f.depths f.run 0
  unfolding alone
  gone f began o lines none =
      (leaves p g f o.fresh (page_after p g lines (first_page p g f began)) (follows f began o lines)).printed
      ∙ ap (λ (l : List (List ℕ)). made_text p (alone p (map (drawn g (page_after p g lines (first_page p g f began)).at.log.hatches) l) f).depths (alone p (map (drawn g (page_after p g lines (first_page p g f began)).at.log.hatches) l) f).run (length l)) none

  pub hatch_log : HatchLog p g
  hatch_log =
      record {
        no_mark = λ f began o lines. leaves p g f o.fresh (page_after p g lines (first_page p g f began)) (follows f began o lines);
        untouched = λ f began o lines none. gone f began o lines none;
        at_clock = λ e clock n litres z. line_clock p g e clock n litres z;
        back_whole = λ f began o lines count z. whole_back p g f o.fresh (page_after p g lines (first_page p g f began)) (follows f began o lines) count z;
      }

seen_same : {d d' l l' : List ℕ} {c c' n n' o o' k k' : ℕ} → d ≡ d' → l ≡ l' → c ≡ c' → n ≡ n' → o ≡ o' → k ≡ k' →
    ◌≡◌ {A = Seen} (record { depths = d; lasts = l; clock = c; length = n; outflow = o; soaked = k }) (record { depths = d'; lasts = l'; clock = c'; length = n'; outflow = o'; soaked = k' })
seen_same a b c d e f = cc

-- what is seen of a series is what is seen of its standing steps alone
pub seen-alone : (p : Plan) (f : World) → Fresh p f → (cs : List Call) → seen_of (series p cs (start p f)).at ≡ seen_of (alone p (series p cs (start p f)).standing f)
seen-alone p f fresh cs =
    let n = (demand_3 p).never_made f fresh cs in
    seen_same n.same_depths n.same_lasts n.same_clock n.same_length n.same_outflow n.same_soaked

pub season_untouched : (p : Plan) → SeasonUntouched p
season_untouched p =
    record {
      stays = λ f fresh season evening same.
          seen-alone p f fresh (season ++ evening)
          ∙ (ap (λ (l : List Given). seen_of (alone p l f)) same ∙ sym (seen-alone p f fresh season));
    }
