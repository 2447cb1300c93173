-- A desk that began where another had come to goes on as that one: deed after deed the notes of the one are the notes of the other over what stood
-- at that place, so both show what the same steps give on the same ground.
-- Assumes nothing.
use mathlib.Core.Path.{◌≡◌, refl, sym, ap, ap₂, subst, ◌∙◌}
use mathlib.Core.Bool.{Bool, true, false}
use mathlib.Core.List.{List, [], ◌∷◌, ◌++◌, map}
use Prim.Native.Nat.{ℕ, zero, suc, ◌+◌, ◌-◌, ◌≤◌, ◌<◌}
use native.Mathlib.Omega.{arith}
use native.Mathlib.Decide.{ℕ_discrete}
use lib.Dec.{eqb, leb}
use lib.ListN.{length, length-append, get_or-append}
use lib.Seq.{drop-append-le}
use Rattle.reckon.specs.Tests.{pick, refusal, ◌unless◌}
use Rattle.reckon.specs.Tables.{inflow_kind, table_room}
use Rattle.reckon.proofs.TestLaws.{pick_ap}
use Rattle.trials.specs.Ring.{kept_after}
use Rattle.trials.proofs.RingLaws.{ring-fine}
use Rattle.ledger.specs.Runs.{Plan, World, Seen, seen_of}
use Rattle.ledger.specs.Record.{room_slots, ring_of}
use Rattle.ledger.specs.TakeBack.{back_number, taken_back}
use Rattle.checks.specs.Given.{Given}
use Rattle.checks.proofs.CheckLaws.{ring_is}
use Rattle.adding.specs.Account.{tables_give}
use Rattle.flood.specs.Step.{step_number, stepped}
use Rattle.flood.proofs.RunToLaws.{checks_passed, still_valid}
use Rattle.hatches.specs.Log.{Evening, table_with, line_fine, draw_fine, hatch_named}
use Rattle.hatches.specs.declared.log.Hatches.{Hatches}
use Rattle.hatches.specs.declared.log.Log.{Log}
use Rattle.evenings.specs.Taking.{drawn, world_of, after_back}
use Rattle.evenings.proofs.BackLaws.{backs, Backed}
use Rattle.evenings.proofs.RingSteps.{step_moved, back_returned}
use Rattle.stands.specs.Laying.{most_given}
use Rattle.trying.specs.Lines.{Came, came, name_refusals, draw_refusals, try_refusals, step_given, world_next, nothing_given}
use Rattle.trying.specs.declared.given.Account.{Account}
use Rattle.demands.specs.Demand3.{alone, AllMade}
use Rattle.demands.specs.Account.{all_given}
use Rattle.demands.specs.HatchLog.{Notes, notes, noted_back}
use Rattle.demands.specs.TakenBack.{Alike}
use Rattle.demands.specs.Desk.{Deed, naming, drawing, one_step, going_back, Desk, at_first, noted_deed, deed_came, deed_number, desk_with, desk_after, givens_of, Begins, OnlyStanding, ShownAlike, numbers_of, Within, AllWithin, DeskSaved}
use Rattle.demands.proofs.TakenBack.{laid_down}
use Rattle.demands.proofs.DeskLaws.{Stands, stands, stands_first, by_deed, only-standing, standing-fine, back_made, back_is, more_is}
use Rattle.demands.proofs.Deeds.{name_number, name_made, name_refused, draw_number, draw_made, draw_refused, try_number, own_number, step_unfit, step-refused, step_made, named_with}

-- ---- lists

map-append : {A B : Type 0} (f : A → B) (l m : List A) → map f (l ++ m) ≡ map f l ++ map f m
map-append f [] m = refl
map-append f (a ∷ l) m = ap (λ (r : List _). f a ∷ r) (map-append f l m)

none_after : {A : Type 0} (l m : List A) → l ++ m ≡ [] → m ≡ []
none_after [] m e = e
none_after (a ∷ l) m e = absurd (let z : suc (length (l ++ m)) ≡ 0 = ap length e in omega arith)

-- ---- steps alone, made on other steps

module _ (p : Plan) (f : World) (S : List Given) where
  alone_on : (us : List Given) → alone p (us ++ S) f ≡ alone p us (alone p S f)
  unfolding alone
  alone_on [] = refl
  alone_on (g ∷ us) = ap (stepped p g) (alone_on us)

  made_on : (us : List Given) → AllMade p (us ++ S) f → AllMade p us (alone p S f)
  made_on [] m = tt
  made_on (g ∷ us) m = (subst (λ (w : World). step_number p g w ≡ 0) (alone_on us) m.0, made_on us m.1)

  given_on : (us : List Given) → all_given p (us ++ S) f ≡ all_given p S f + all_given p us (alone p S f)
  unfolding alone all_given
  given_on [] = omega arith
  given_on (g ∷ us) =
      let same : tables_give p g (alone p (us ++ S) f).run.clock (stepped p g (alone p (us ++ S) f)).run.clock ≡ tables_give p g (alone p us (alone p S f)).run.clock (stepped p g (alone p us (alone p S f))).run.clock = ap (λ (w : World). tables_give p g w.run.clock (stepped p g w).run.clock) (alone_on us) in
      omega (arith, given_on us, same)

-- in two worlds that show the same, the same steps are given the same
given_alike : (p : Plan) (w v : World) → Alike p w v → (us : List Given) → AllMade p us w → all_given p us w ≡ all_given p us v
unfolding all_given
given_alike p w v a [] m = refl
given_alike p w v a (g ∷ us) m =
    let before = ap (λ (s : Seen). s.clock) ((laid_down p).same_seen w v a us m.1) in
    let after = ap (λ (s : Seen). s.clock) ((laid_down p).same_seen w v a (g ∷ us) m) in
    ap₂ (λ (a b : ℕ). a + b) (given_alike p w v a us m.1) (ap₂ (λ (t u : ℕ). tables_give p g t u) before after)

-- the ring of steps alone is in range
ring_alone : (p : Plan) (f : World) → ring_of p f ≡ true → (gs : List Given) → AllMade p gs f → ring_of p (alone p gs f) ≡ true
unfolding alone
ring_alone p f fine [] m = fine
ring_alone p f fine (g ∷ gs) m =
    let w = alone p gs f in
    ring_is p g (ring_of p (stepped p g w)) (seen_of (stepped p g w)) (still_valid p g w (checks_passed p g w m.0) m.0)

backs-kept : (p : Plan) (n : ℕ) (w : World) → ((k : ℕ) → k < n → back_number p (backs p k w) ≡ 0) → (backs p n w).run.kept ≡ w.run.kept - n
unfolding backs
backs-kept p zero w each = omega arith
backs-kept p (suc n) w each =
    omega (arith, backs-kept p n (taken_back p w) (λ k h. each (suc k) (omega arith)), (back_returned p w (each 0 (omega arith))).kept_is)

-- ---- a page's ring, and what it keeps after a deed

module _ (p : Plan) (g : Given) (e : Evening) (a : Account) (b : Begins p g e a) where
  first_ring : ring_of p (world_of e) ≡ true
  first_ring =
      ring-fine _ _ _ (record { some = b.some; kept_fits = omega (arith, b.fresh.kept_none); newest_below = omega (arith, b.fresh.newest_last, b.some) })

  module _ (x : Desk) (h : Stands p g e a b x) where
    slots : room_slots p x.at.records ≡ room_slots p e.records
    slots = h.follows.goes.slots_are

    page_ring : ring_of p (world_of x.at) ≡ true
    page_ring =
        let r = h.follows.goes.beside in
        ring-fine _ _ _ (record { some = omega (arith, slots, r.some); kept_fits = omega (arith, slots, r.kept_fits); newest_below = omega (arith, slots, r.newest_below) })

    kept_back : (count : ℕ) → count ≤ x.at.log.run.kept → (after_back p nothing_given x.at count).log.run.kept ≡ x.at.log.run.kept - count
    unfolding after_back
    kept_back count l =
        let back : Backed p count 0 (world_of x.at) _ = back_is p g e a b x h count l in
        ap (λ (w : World). w.run.kept) back.world_is
        ∙ (backs-kept p back.more (world_of x.at) back.each_made ∙ ap (λ (k : ℕ). x.at.log.run.kept - k) (more_is p g e a b x h count l))

    kept_step : (z : step_number p (step_given p g x.at x.account) (world_of x.at) ≡ 0) →
        (world_next p g x.at x.account).run.kept ≡ kept_after (room_slots p e.records) x.at.log.run.kept
    kept_step z = (step_moved p (step_given p g x.at x.account) (world_of x.at) z).kept_is ∙ ap (λ (k : ℕ). kept_after k x.at.log.run.kept) slots

    -- after a step that is made, it at least is kept
    pub one_kept : deed_number p g one_step x ≡ 0 → 1 ≤ (desk_with p g one_step x).at.log.run.kept
    unfolding desk_with
    one_kept none = go (ℕ_discrete (try_number p g x.at x.account) 0) (ℕ_discrete (own_number p g x.at x.account) 0)
      where
        go : Dec (try_number p g x.at x.account ≡ 0) → Dec (own_number p g x.at x.account ≡ 0) →
            1 ≤ (deed_came p g one_step x.at x.account).evening.log.run.kept
        go (no d) _ = absurd (d (sym (ap (λ (c : Came). c.number) (step_unfit p g x.at x.account d)) ∙ none))
        go (yes z) (no d) = absurd (d (sym (ap (λ (c : Came). c.number) (step-refused p g x.at x.account z d)) ∙ none))
        go (yes z) (yes v) =
            omega (arith, ap (λ (c : Came). c.evening.log.run.kept) (step_made p g x.at x.account z v), kept_step v, b.some)

-- ---- what a line asks of the log, and not of the run

log_as : (k l : Log) → k.opening ≡ l.opening → k.hatches ≡ l.hatches → k.litres ≡ l.litres →
    k ≡ record { run = k.run; steps = k.steps; opening = l.opening; hatches = l.hatches; litres = l.litres }
log_as k l a b c = λ j. record { run = k.run; steps = k.steps; opening = a j; hatches = b j; litres = c j }

rows_alike : {a a' b b' c c' : Bool} → a ≡ a' → b ≡ b' → c ≡ c' → refusal (4 unless a ∷ 6 unless b ∷ 6 unless c ∷ []) ≡ refusal (4 unless a' ∷ 6 unless b' ∷ 6 unless c' ∷ [])
rows_alike q r s = rw (q, r, s)

-- two outcomes of a deed, of which the first keeps as many steps or more
record Agrees (c d : Came) : Type 0 where
  number_same : c.number ≡ d.number
  hatches_same : c.evening.log.hatches ≡ d.evening.log.hatches
  opening_same : c.evening.log.opening ≡ d.evening.log.opening
  kept_more : d.evening.log.run.kept ≤ c.evening.log.run.kept

agrees_by : {c c' d d' : Came} → c ≡ c' → d ≡ d' → Agrees c' d' → Agrees c d
agrees_by {c} {c'} {d} {d'} q r h = subst (λ (k : Came). Agrees k d) (sym q) (subst (λ (k : Came). Agrees c' k) (sym r) h)

-- notes over what stood before
abbrev above : List (List ℕ) → Notes → Notes
above s m = notes m.litres (m.standing ++ s)

above_back : (s : List (List ℕ)) (n : ℕ) (m : Notes) → n ≤ length m.standing → noted_back n (above s m) ≡ above s (noted_back n m)
unfolding noted_back
above_back s zero m h = refl
above_back s (suc n) m h =
    ap₂ (λ (l : List ℕ) (r : List (List ℕ)). notes l r) (get_or-append m.standing s [] n (omega arith)) (drop-append-le (suc n) m.standing s h)

module _ (p : Plan) (g : Given) (e : Evening) (a : Account) (b : Begins p g e a) (deeds : List Deed) (e' : Evening) (a' : Account) (b' : Begins p g e' a')
    (same : ShownAlike p g (desk_after p g deeds (at_first e a)) (at_first e' a')) (rooms : room_slots p e'.records ≡ room_slots p e.records) where
  -- where the one had come to, and the other began
  abbrev place : Desk
  place = desk_after p g deeds (at_first e a)

  place_stands : Stands p g e a b place
  place_stands = stands p g e a b deeds

  at_place : OnlyStanding p g e a place
  at_place = only-standing p g e a b place place_stands

  abbrev s₀ : List (List ℕ)
  s₀ = place.noted.standing

  abbrev S : List Given
  S = givens_of p g place

  alike : Alike p (alone p S (world_of e)) (world_of e')
  alike =
      record {
        same_seen = sym at_place.same_seen ∙ same.seen;
        same_ring = ring_alone p (world_of e) (first_ring p g e a b) S at_place.all_made ∙ sym (first_ring p g e' a' b');
      }

  record Together (x y : Desk) : Type 0 where
    of_one : Stands p g e a b x
    of_other : Stands p g e' a' b' y
    notes_are : x.noted ≡ above s₀ y.noted
    hatches_are : x.at.log.hatches ≡ y.at.log.hatches
    opening_is : x.at.log.opening ≡ y.at.log.opening
    kept_more : y.at.log.run.kept ≤ x.at.log.run.kept
    base_is : map (drawn g x.at.log.hatches) s₀ ≡ S

  together_first : Together place (at_first e' a')
  together_first =
      record {
        of_one = place_stands;
        of_other = stands_first p g e' a' b';
        notes_are = ap (λ (l : List ℕ). notes l s₀) (sym at_place.rates_are ∙ same.litres);
        hatches_are = same.hatches;
        opening_is = same.opening;
        kept_more = omega (arith, b'.fresh.kept_none);
        base_is = refl;
      }

  module _ (x y : Desk) (t : Together x y) where
    one : OnlyStanding p g e a x
    one = only-standing p g e a b x t.of_one

    other : OnlyStanding p g e' a' y
    other = only-standing p g e' a' b' y t.of_other

    abbrev U : List Given
    U = givens_of p g y

    givens_are : givens_of p g x ≡ U ++ S
    givens_are =
        ap (λ (m : Notes). map (drawn g x.at.log.hatches) m.standing) t.notes_are
        ∙ (map-append (drawn g x.at.log.hatches) y.noted.standing s₀
        ∙ ap₂ (λ (u s : List Given). u ++ s) (ap (λ (hs : Hatches). map (drawn g hs) y.noted.standing) t.hatches_are) t.base_is)

    made_there : AllMade p U (alone p S (world_of e))
    made_there = made_on p (world_of e) S U (subst (λ (l : List Given). AllMade p l (world_of e)) givens_are one.all_made)

    seen_same : seen_of (world_of x.at) ≡ seen_of (world_of y.at)
    seen_same =
        one.same_seen
        ∙ (ap (λ (l : List Given). seen_of (alone p l (world_of e))) givens_are
        ∙ (ap (λ (w : World). seen_of w) (alone_on p (world_of e) S U)
        ∙ ((laid_down p).same_seen (alone p S (world_of e)) (world_of e') alike U made_there ∙ sym other.same_seen)))

    given_same : x.account.given ≡ y.account.given
    given_same =
        let at : all_given p (givens_of p g x) (world_of e) ≡ all_given p (U ++ S) (world_of e) = ap (λ (l : List Given). all_given p l (world_of e)) givens_are in
        omega (
          arith,
          one.given_is,
          other.given_is,
          at_place.given_is,
          same.given,
          at,
          given_on p (world_of e) S U,
          given_alike p (alone p S (world_of e)) (world_of e') alike U made_there,
        )

    shown : ShownAlike p g x y
    shown =
        record {
          seen = seen_same;
          steps =
              omega (
                arith,
                one.steps_are,
                other.steps_are,
                at_place.steps_are,
                same.steps,
                ap (λ (m : Notes). length m.standing) t.notes_are,
                length-append y.noted.standing s₀,
              );
          opening = t.opening_is;
          hatches = t.hatches_are;
          litres = one.rates_are ∙ (ap (λ (m : Notes). m.litres) t.notes_are ∙ sym other.rates_are);
          start = one.start_is ∙ (sym at_place.start_is ∙ (same.start ∙ sym other.start_is));
          given = given_same;
        }

    -- ---- a deed at both

    as_other : x.at.log ≡ record { run = x.at.log.run; steps = x.at.log.steps; opening = y.at.log.opening; hatches = y.at.log.hatches; litres = y.at.log.litres }
    as_other = log_as x.at.log y.at.log t.opening_is t.hatches_are shown.litres

    name_same : (n row column : ℕ) →
        refusal (name_refusals p g.lie.rules g.inflow x.at.log n row column) ≡ refusal (name_refusals p g.lie.rules g.inflow y.at.log n row column)
    unfolding line_fine draw_fine
    name_same n row column = ap (λ (l : Log). refusal (name_refusals p g.lie.rules g.inflow l n row column)) as_other

    draw_same : (n litres : ℕ) → refusal (draw_refusals x.at.log n litres) ≡ refusal (draw_refusals y.at.log n litres)
    draw_same n litres = ap (λ (l : Log). refusal (draw_refusals l n litres)) as_other

    try_same : refusal (try_refusals g.inflow x.at.log x.account) ≡ refusal (try_refusals g.inflow y.at.log y.account)
    unfolding try_refusals
    try_same =
        rows_alike (ap (λ (l : Log). leb (length (table_with g.inflow l.hatches l.litres)) (table_room inflow_kind)) as_other)
        (standing-fine p g e a b x t.of_one ∙ sym (standing-fine p g e' a' b' y t.of_other)) (ap (λ (n : ℕ). leb n most_given) given_same)

    step_same : step_number p (step_given p g x.at x.account) (world_of x.at) ≡ step_number p (step_given p g y.at y.account) (world_of y.at)
    unfolding alone
    step_same =
        ap (λ (l : Log). step_number p (drawn g l.hatches l.litres) (world_of x.at)) as_other
        ∙ (laid_down p).same_next (world_of x.at) (world_of y.at)
        (record { same_seen = seen_same; same_ring = page_ring p g e a b x t.of_one ∙ sym (page_ring p g e' a' b' y t.of_other) })
        [] tt (step_given p g y.at y.account)

    stay : {k m : ℕ} → k ≡ m → Agrees (came k x.at x.account) (came m y.at y.account)
    stay q = record { number_same = q; hatches_same = t.hatches_are; opening_same = t.opening_is; kept_more = t.kept_more }

    agree : (d : Deed) → Within p g d y → Agrees (deed_came p g d x.at x.account) (deed_came p g d y.at y.account)
    unfolding after_back
    agree (naming n row column) w = go (ℕ_discrete (name_number p g y.at y.account n row column) 0)
      where
        go : Dec (name_number p g y.at y.account n row column ≡ 0) →
            Agrees (deed_came p g (naming n row column) x.at x.account) (deed_came p g (naming n row column) y.at y.account)
        go (yes z) =
            agrees_by (name_made p g x.at x.account n row column (name_same n row column ∙ z)) (name_made p g y.at y.account n row column z)
            (record {
              number_same = refl;
              hatches_same = ap (λ (l : Log). (hatch_named l n row column).hatches) as_other;
              opening_same = refl;
              kept_more = t.kept_more;
            })
        go (no d) =
            agrees_by (name_refused p g x.at x.account n row column (λ z. d (sym (name_same n row column) ∙ z)))
            (name_refused p g y.at y.account n row column d) (stay (name_same n row column))
    agree (drawing n litres) w = go (ℕ_discrete (draw_number p g y.at y.account n litres) 0)
      where
        go : Dec (draw_number p g y.at y.account n litres ≡ 0) →
            Agrees (deed_came p g (drawing n litres) x.at x.account) (deed_came p g (drawing n litres) y.at y.account)
        go (yes z) =
            agrees_by (draw_made p g x.at x.account n litres (draw_same n litres ∙ z)) (draw_made p g y.at y.account n litres z)
            (record { number_same = refl; hatches_same = t.hatches_are; opening_same = t.opening_is; kept_more = t.kept_more })
        go (no d) =
            agrees_by (draw_refused p g x.at x.account n litres (λ z. d (sym (draw_same n litres) ∙ z)))
            (draw_refused p g y.at y.account n litres d) (stay (draw_same n litres))
    agree one_step w = go (ℕ_discrete (try_number p g y.at y.account) 0) (ℕ_discrete (own_number p g y.at y.account) 0)
      where
        go : Dec (try_number p g y.at y.account ≡ 0) → Dec (own_number p g y.at y.account ≡ 0) →
            Agrees (deed_came p g one_step x.at x.account) (deed_came p g one_step y.at y.account)
        go (no d) _ =
            agrees_by (step_unfit p g x.at x.account (λ z. d (sym try_same ∙ z))) (step_unfit p g y.at y.account d) (stay try_same)
        go (yes z) (no d) =
            agrees_by (step-refused p g x.at x.account (try_same ∙ z) (λ v. d (sym step_same ∙ v))) (step-refused p g y.at y.account z d)
            (stay step_same)
        go (yes z) (yes v) =
            agrees_by (step_made p g x.at x.account (try_same ∙ z) (step_same ∙ v)) (step_made p g y.at y.account z v)
            (record {
              number_same = refl;
              hatches_same = t.hatches_are;
              opening_same = refl;
              kept_more = omega (arith, kept_step p g e a b x t.of_one (step_same ∙ v), kept_step p g e' a' b' y t.of_other v, rooms, t.kept_more);
            })
    agree (going_back count) w =
        let l : count ≤ x.at.log.run.kept = omega (arith, w, t.kept_more) in
        agrees_by (back_made p g e a b x t.of_one count l) (back_made p g e' a' b' y t.of_other count w)
        (record {
          number_same = refl;
          hatches_same = t.hatches_are;
          opening_same = refl;
          kept_more = omega (arith, kept_back p g e a b x t.of_one count l, kept_back p g e' a' b' y t.of_other count w, t.kept_more);
        })

    above_deed : (d : Deed) → Within p g d y → noted_deed d (above s₀ y.noted) ≡ above s₀ (noted_deed d y.noted)
    unfolding noted_deed
    above_deed (naming n row column) w = refl
    above_deed (drawing n litres) w = refl
    above_deed one_step w = refl
    above_deed (going_back count) w = above_back s₀ count y.noted (omega (arith, w, other.kept_low))

    -- hatches are named only where no step stands
    base_next : (d : Deed) → map (drawn g (desk_with p g d x).at.log.hatches) s₀ ≡ S
    base_next d = go x.at.log.opening refl
      where
        go : (o : Bool) → x.at.log.opening ≡ o → map (drawn g (desk_with p g d x).at.log.hatches) s₀ ≡ S
        go true q =
            let none = none_after y.noted.standing s₀ (sym (ap (λ (m : Notes). m.standing) t.notes_are) ∙ t.of_one.follows.opening_none q) in
            ap (map (drawn g (desk_with p g d x).at.log.hatches)) none ∙ (sym (ap (map (drawn g x.at.log.hatches)) none) ∙ t.base_is)
        go false q = ap (λ (hs : Hatches). map (drawn g hs) s₀) (named_with p g d x (record { same = refl; over = q })).same ∙ t.base_is

    together_next : (d : Deed) → Within p g d y → Together (desk_with p g d x) (desk_with p g d y)
    unfolding desk_with
    together_next d w =
        let c = agree d w in
        record {
          of_one = by_deed p g e a b x t.of_one d;
          of_other = by_deed p g e' a' b' y t.of_other d;
          notes_are =
              ap₂ (λ (k : ℕ) (m : Notes). pick (eqb k 0) (noted_deed d m) m) c.number_same t.notes_are
              ∙ (ap (λ (m : Notes). pick (eqb (deed_number p g d y) 0) m (above s₀ y.noted)) (above_deed d w)
              ∙ sym (pick_ap (above s₀) (eqb (deed_number p g d y) 0) (noted_deed d y.noted) y.noted));
          hatches_are = c.hatches_same;
          opening_is = c.opening_same;
          kept_more = c.kept_more;
          base_is = base_next d;
        }

  go_on_lem : (further : List Deed) (x y : Desk) → Together x y → AllWithin p g further y →
      (numbers_of p g further x ≡ numbers_of p g further y) × ShownAlike p g (desk_after p g further x) (desk_after p g further y)
  unfolding numbers_of desk_after
  go_on_lem [] x y t w = (refl, shown x y t)
  go_on_lem (d ∷ rest) x y t w =
      let n = go_on_lem rest (desk_with p g d x) (desk_with p g d y) (together_next x y t d w.0) w.1 in
      (ap₂ (λ (k : ℕ) (l : List ℕ). k ∷ l) (agree x y t d w.0).number_same n.0, n.1)

pub desk_saved : (p : Plan) (g : Given) → DeskSaved p g
desk_saved p g =
    record {
      goes_on = λ e a b deeds e' a' b' same rooms further w.
          go_on_lem p g e a b deeds e' a' b' same rooms further (desk_after p g deeds (at_first e a)) (at_first e' a') (together_first p g e a b deeds e' a' b' same rooms) w;
    }
