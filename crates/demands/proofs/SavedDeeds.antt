-- Whatever deeds follow, what stands can be saved: its numbers pass the very tests of `lay`.
-- Assumes nothing.
use mathlib.Core.Path.{◌≡◌, refl, sym, ap, subst, ◌∙◌}
use mathlib.Core.Bool.{Bool, true, false, not, ◌||◌}
use mathlib.Core.List.{List, [], ◌∷◌}
use Prim.Native.Nat.{ℕ, zero, suc, ◌-◌, ◌≤◌, ◌<◌}
use native.Mathlib.Omega.{arith}
use native.Mathlib.Decide.{ℕ_discrete}
use lib.Dec.{leb}
use lib.ListN.{length, get_or, set, drop}
use lib.Seq.{get_or-set_same, get_or-set_other}
use borrow.Author.Tests.{leb-true, le-leb}
use Rattle.reckon.specs.Tests.{refusal}
use Rattle.reckon.specs.Ranges.{most_litres, water_fine}
use Rattle.reckon.proofs.TestLaws.{not_both, every_each, each_every, all_at, all_of, or_right, or_of, refusal_passed}
use Rattle.grid.specs.Squares.{squares}
use Rattle.ledger.specs.Runs.{Plan, World, Seen, seen_of, run_fine, run_values_fine}
use Rattle.ledger.specs.Flows.{shut}
use Rattle.ledger.specs.Checks.{waters_fine}
use Rattle.checks.specs.Given.{Given}
use Rattle.checks.specs.Inner.Ready.{Ready}
use Rattle.hatches.specs.Log.{Evening, most_hatches, is_named, line_fine, draw_fine, standing_fine, hatch_named}
use Rattle.hatches.proofs.RefusalLaws.{back_kept, standing_is}
use Rattle.hatches.specs.declared.log.Hatches.{Hatches}
use Rattle.hatches.specs.declared.log.Log.{Log}
use Rattle.evenings.specs.Taking.{world_of, after_back}
use Rattle.stands.specs.Laying.{most_start, most_given, hatch_fine, hatches_fine, draws_fine, state_fine}
use Rattle.stands.specs.Inner.Back.{Tidy, Savable}
use Rattle.stands.proofs.TidyLaws.{tidy_named, tidy_drawn}
use Rattle.trying.specs.Lines.{back_refusals}
use Rattle.trying.specs.declared.given.Account.{Account}
use Rattle.desks.specs.Lines.{saved_of}
use Rattle.demands.specs.Demand3.{alone, AllMade}
use Rattle.demands.specs.HatchLog.{Notes, noted_back}
use Rattle.demands.specs.Desk.{Deed, naming, drawing, one_step, going_back, Desk, at_first, noted_deed, desk_with, desk_after, givens_of, Begins, Balanced, OnlyStanding}
use Rattle.demands.proofs.Deeds.{name_number, name_made, name_refused, draw_number, draw_made, draw_refused, try_number, own_number, step_unfit, step-refused, step_made, back_refused, back_taken, desk_stays, desk_made}
use Rattle.demands.proofs.DeskLaws.{Stands, stands, stands_first, by_deed, only-standing, standing-fine, none_refused, after-step, given_fits}

-- ---- rates that lines can have set

module _ (p : Plan) where
  pub record Good (hs : Hatches) (litres : List ℕ) : Type 0 where
    pub tidy : Tidy hs litres
    pub fine : hatches_fine p hs litres ≡ true

  good_named : (log : Log) (n row column : ℕ) → 1 ≤ n → n ≤ most_hatches → get_or log.hatches.named (n - 1) false ≡ false →
      hatch_fine p row column 0 ≡ true → Good log.hatches log.litres → Good (hatch_named log n row column).hatches log.litres
  unfolding hatches_fine
  good_named log n row column low high free fine good =
      record { tidy = tidy_named log n row column low high good.tidy; fine = all_of most_hatches _ each }
    where
      after : Hatches
      after = (hatch_named log n row column).hatches

      each : (h : ℕ) → h < most_hatches →
          (not (get_or after.named h false) || hatch_fine p (get_or after.rows h 0) (get_or after.columns h 0) (get_or log.litres h 0)) ≡ true
      each h l = go (ℕ_discrete h (n - 1))
        where
          go : Dec (h ≡ n - 1) →
              (not (get_or after.named h false) || hatch_fine p (get_or after.rows h 0) (get_or after.columns h 0) (get_or log.litres h 0)) ≡ true
          go (yes e) =
              rw (
                e,
                get_or-set_same log.hatches.rows (n - 1) row 0 (omega (arith, good.tidy.rows_long)),
                get_or-set_same log.hatches.columns (n - 1) column 0 (omega (arith, good.tidy.columns_long)),
                good.tidy.no_litres (n - 1) free,
                fine,
              )
              (or_of (not (get_or after.named (n - 1) false)) true (λ _. refl))
          go (no d) =
              rw (
                get_or-set_other log.hatches.named (n - 1) h true false d,
                get_or-set_other log.hatches.rows (n - 1) h row 0 d,
                get_or-set_other log.hatches.columns (n - 1) h column 0 d,
              )
              (all_at most_hatches _ good.fine h l)

  at_rate : (row column litres rate : ℕ) → rate ≤ most_litres → hatch_fine p row column litres ≡ true → hatch_fine p row column rate ≡ true
  unfolding hatch_fine
  at_rate row column litres rate low e =
      let t = every_each _ e in each_every _ (t.0, (t.1.0, (t.1.1.0, (le-leb _ _ low, tt))))

  good_drawn : (hs : Hatches) (litres : List ℕ) (n rate : ℕ) → is_named hs n ≡ true → rate ≤ most_litres → Good hs litres → Good hs (set litres (n - 1) rate)
  unfolding hatches_fine
  good_drawn hs litres n rate named low good =
      record { tidy = tidy_drawn hs litres n rate named good.tidy; fine = all_of most_hatches _ each }
    where
      each : (h : ℕ) → h < most_hatches →
          (not (get_or hs.named h false) || hatch_fine p (get_or hs.rows h 0) (get_or hs.columns h 0) (get_or (set litres (n - 1) rate) h 0)) ≡ true
      each h l = go (ℕ_discrete h (n - 1))
        where
          before : (not (get_or hs.named h false) || hatch_fine p (get_or hs.rows h 0) (get_or hs.columns h 0) (get_or litres h 0)) ≡ true
          before = all_at most_hatches _ good.fine h l

          set_here : h ≡ n - 1 → get_or (set litres (n - 1) rate) h 0 ≡ rate
          set_here e =
              ap (λ (k : ℕ). get_or (set litres (n - 1) rate) k 0) e ∙ get_or-set_same litres (n - 1) rate 0 (omega (arith, l, e, good.tidy.litres_long))

          go : Dec (h ≡ n - 1) →
              (not (get_or hs.named h false) || hatch_fine p (get_or hs.rows h 0) (get_or hs.columns h 0) (get_or (set litres (n - 1) rate) h 0)) ≡ true
          go (yes e) =
              or_of (not (get_or hs.named h false)) (hatch_fine p (get_or hs.rows h 0) (get_or hs.columns h 0) (get_or (set litres (n - 1) rate) h 0))
              (λ u. at_rate (get_or hs.rows h 0) (get_or hs.columns h 0) (get_or litres h 0) _ (omega (arith, low, set_here e)) (or_right (not (get_or hs.named h false)) _ before u))
          go (no d) = rw (get_or-set_other litres (n - 1) h rate 0 d) before

  -- of each standing step
  abbrev pub AllGood : Hatches → List (List ℕ) → Type 0
  AllGood hs [] = Unit {0}
  AllGood hs (l ∷ rest) = Good hs l × AllGood hs rest

  good_at : (hs : Hatches) (s : List (List ℕ)) (n : ℕ) → AllGood hs s → n < length s → Good hs (get_or s n [])
  good_at hs [] n a h = absurd (omega (arith, h))
  good_at hs (l ∷ s) zero a h = a.0
  good_at hs (l ∷ s) (suc n) a h = good_at hs s n a.1 (omega arith)

  good_drop : (hs : Hatches) (s : List (List ℕ)) (n : ℕ) → AllGood hs s → AllGood hs (drop n s)
  good_drop hs s zero a = a
  good_drop hs [] (suc n) a = tt
  good_drop hs (l ∷ s) (suc n) a = good_drop hs s n a.1

  pub record Fit (x : Desk) : Type 0 where
    pub now : Good x.at.log.hatches x.noted.litres
    pub each : AllGood x.at.log.hatches x.noted.standing

  good_back : (hs : Hatches) (m : Notes) (n : ℕ) → n ≤ length m.standing → Good hs m.litres → AllGood hs m.standing →
      Good hs (noted_back n m).litres × AllGood hs (noted_back n m).standing
  unfolding noted_back
  good_back hs m zero l now each = (now, each)
  good_back hs m (suc n) l now each = (good_at hs m.standing n each (omega arith), good_drop hs m.standing (suc n) each)

-- ---- deed after deed

module _ (p : Plan) (g : Given) (e₀ : Evening) (a₀ : Account) (first : Begins p g e₀ a₀) where
  module _ (x : Desk) (h : Stands p g e₀ a₀ first x) (fit : Fit p x) where
    abbrev e : Evening
    e = x.at

    abbrev a : Account
    a = x.account

    stays : (d : Deed) → desk_with p g d x ≡ x → Fit p (desk_with p g d x)
    stays d q = subst (Fit p) (sym q) fit

    fit_deed : (d : Deed) → Fit p (desk_with p g d x)
    unfolding noted_deed line_fine draw_fine is_named hatch_fine back_refusals after_back
    fit_deed (naming n row column) = go (ℕ_discrete (name_number p g e a n row column) 0)
      where
        go : Dec (name_number p g e a n row column ≡ 0) → Fit p (desk_with p g (naming n row column) x)
        go (no d) = stays (naming n row column) (desk_stays p g (naming n row column) x (name_refused p g e a n row column d) d)
        go (yes z) =
            let t = refusal_passed _ tt z in
            let line = every_each _ t.0 in
            let number = every_each _ line.1.0 in
            let draw = every_each _ t.1.0 in
            let low : 1 ≤ n = leb-true _ _ number.0 in
            let high : n ≤ most_hatches = leb-true _ _ number.1.0 in
            let none = h.follows.opening_none line.0 in
            let after = (hatch_named e.log n row column).hatches in
            subst (Fit p) (sym (desk_made p g (naming n row column) x (name_made p g e a n row column z)))
            (record {
              now =
                  subst (Good p after) h.follows.litres_are
                  (good_named p e.log n row column low high (free number line.1.1.0)
                  (each_every _ (draw.0, (draw.1.0, (draw.1.1.0, (refl, tt)))))
                  (subst (Good p e.log.hatches) (sym h.follows.litres_are) fit.now));
              each = subst (AllGood p after) (sym none) tt;
            })
          where
            free : (leb 1 n ≡ true) × ((leb n most_hatches ≡ true) × Unit {0}) → not (is_named e.log.hatches n) ≡ true → get_or e.log.hatches.named (n - 1) false ≡ false
            free number q = by (get_or e.log.hatches.named (n - 1) false) refl
              where
                flip : (b : Bool) → not b ≡ true → b ≡ false
                flip true q = sym q
                flip false q = refl

                by : (b : Bool) → get_or e.log.hatches.named (n - 1) false ≡ b → get_or e.log.hatches.named (n - 1) false ≡ false
                by false r = r
                by true r = not_both (each_every _ (number.0, (number.1.0, (r, tt)))) (flip _ q)
    fit_deed (drawing n litres) = go (ℕ_discrete (draw_number p g e a n litres) 0)
      where
        go : Dec (draw_number p g e a n litres ≡ 0) → Fit p (desk_with p g (drawing n litres) x)
        go (no d) = stays (drawing n litres) (desk_stays p g (drawing n litres) x (draw_refused p g e a n litres d) d)
        go (yes z) =
            let t = refusal_passed _ tt z in
            subst (Fit p) (sym (desk_made p g (drawing n litres) x (draw_made p g e a n litres z)))
            (record { now = good_drawn p e.log.hatches x.noted.litres n litres t.0 (leb-true _ _ t.1.0) fit.now; each = fit.each })
    fit_deed one_step = go (ℕ_discrete (try_number p g e a) 0) (ℕ_discrete (own_number p g e a) 0)
      where
        go : Dec (try_number p g e a ≡ 0) → Dec (own_number p g e a ≡ 0) → Fit p (desk_with p g one_step x)
        go (no d) _ = stays one_step (desk_stays p g one_step x (step_unfit p g e a d) d)
        go (yes z) (no d) = stays one_step (desk_stays p g one_step x (step-refused p g e a z d) d)
        go (yes z) (yes y) =
            subst (Fit p) (sym (desk_made p g one_step x (step_made p g e a z y))) (record { now = fit.now; each = (fit.now, fit.each) })
    fit_deed (going_back count) = go (ℕ_discrete (refusal (back_refusals e.log count)) 0)
      where
        go : Dec (refusal (back_refusals e.log count) ≡ 0) → Fit p (desk_with p g (going_back count) x)
        go (no d) = stays (going_back count) (desk_stays p g (going_back count) x (back_refused p g e a count d) d)
        go (yes z) =
            let l = back_kept e.log count (refusal_passed _ tt z).1.0 in
            let b = good_back p e.log.hatches x.noted count (omega (arith, l, h.follows.goes.beside.few)) fit.now fit.each in
            subst (Fit p) (sym (desk_made p g (going_back count) x (back_taken p g e a count z (none_refused p g e₀ a₀ first x h count l))))
            (record { now = b.0; each = b.1 })

  fit_from : (deeds : List Deed) (x : Desk) → Stands p g e₀ a₀ first x → Fit p x → Fit p (desk_after p g deeds x)
  unfolding desk_after
  fit_from [] x h fit = fit
  fit_from (d ∷ rest) x h fit = fit_from rest _ (by_deed p g e₀ a₀ first x h d) (fit_deed x h fit d)

-- ---- what is seen is in range

abbrev pub InRange : Plan → Seen → Type 0
InRange p v = (waters_fine p v.depths v.lasts ≡ true) × (run_values_fine true v.clock v.length v.outflow v.soaked ≡ true)

pub ready_range : (p : Plan) (g : Given) (v : Seen) → Ready p g v → InRange p v
unfolding waters_fine water_fine run_values_fine
ready_range p g v r = (
  all_of (squares p.shape) _ (λ i l.
      or_of (shut p i) (water_fine (get_or v.depths i 0) (get_or v.lasts i 0))
      (λ o. each_every _ (le-leb _ _ (r.flows.lies.depths_to i l o), (le-leb _ _ (r.flows.lasts_to i l o), tt)))),
  each_every _ (
    refl,
    (le-leb _ _ r.clock_to, (le-leb _ _ r.length_from, (le-leb _ _ r.length_to, (le-leb _ _ r.outflow_to, (le-leb _ _ r.soaked_to, tt))))),
  ),
)

alone_range : (p : Plan) (f : World) → InRange p (seen_of f) → (gs : List Given) → AllMade p gs f → InRange p (seen_of (alone p gs f))
unfolding alone
alone_range p f start [] made = start
alone_range p f start (g ∷ gs) made = ready_range p g _ (after-step p g (alone p gs f) made.0)

-- ---- what stands can be saved

module _ (p : Plan) (g : Given) where
  abbrev pub SavableAt : ℕ → Evening → Account → Type 0
  SavableAt slots e a = Savable p g.inflow slots e.depths e.lasts (saved_of e.log a)

  module _ (e : Evening) (a : Account) (b : Begins p g e a) (q : Balanced p g e a) (slots : ℕ) (s : SavableAt slots e a) (deeds : List Deed) where
    abbrev x : Desk
    x = desk_after p g deeds (at_first e a)

    x_stands : Stands p g e a b x
    x_stands = stands p g e a b deeds

    only : OnlyStanding p g e a x
    only = only-standing p g e a b x x_stands

    fit : Fit p x
    unfolding draws_fine
    fit =
        fit_from p g e a b deeds (at_first e a) (stands_first p g e a b)
        (record { now = record { tidy = s.tidy; fine = (every_each _ s.draws).0 }; each = tt })

    first_range : InRange p (seen_of (world_of e))
    unfolding state_fine run_fine run_values_fine
    first_range = (s.waters, each_every _ (refl, (every_each _ (every_each _ s.state).0).1))

    in_range : InRange p (seen_of (world_of x.at))
    in_range = subst (InRange p) (sym only.same_seen) (alone_range p (world_of e) first_range (givens_of p g x) only.all_made)

    good : Good p x.at.log.hatches x.at.log.litres
    good = subst (Good p x.at.log.hatches) (sym only.rates_are) fit.now

    pub still_savable : SavableAt slots x.at x.account
    unfolding draws_fine state_fine run_fine run_values_fine standing_fine
    still_savable =
        let states = every_each _ s.state in
        record {
          shape = s.shape;
          waters = in_range.0;
          draws = each_every _ (good.fine, (le-leb _ _ x_stands.table_fits, tt));
          state =
              each_every _ (
                each_every _ ((every_each _ states.0).0, (every_each _ in_range.1).1),
                (
                  each_every _ (le-leb 0 x.at.log.steps (omega arith), (le-leb x.at.log.steps x.at.log.run.clock (standing_is x.at.log (standing-fine p g e a b x x_stands)).1, tt)),
                  (
                    le-leb x.account.start most_start (omega (arith, leb-true a.start most_start states.1.1.0, only.start_is)),
                    (le-leb x.account.given most_given (omega (arith, only.given_is, given_fits p (world_of e) (givens_of p g x) only.all_made a.start a.given b.given_low q)), tt),
                  ),
                ),
              );
          tidy = good.tidy;
        }
