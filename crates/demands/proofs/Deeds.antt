-- What each deed at the desk comes to, made or refused, and that a refused one changes nothing.
-- Assumes nothing.
use mathlib.Core.Path.{◌≡◌, refl, sym, ap, subst, ◌∙◌}
use mathlib.Core.Bool.{false}
use mathlib.Core.List.{List, [], ◌∷◌}
use Prim.Native.Nat.{ℕ, ◌-◌}
use native.Mathlib.Decide.{ℕ_discrete}
use lib.Dec.{eqb}
use lib.ListN.{set}
use borrow.Author.Tests.{eq-eqb, ne_eqb}
use Rattle.reckon.specs.Tests.{pick, refusal}
use Rattle.reckon.proofs.TestLaws.{pick_true, pick_false, pick_both, not_both, every_each, refusal_passed}
use Rattle.ledger.specs.Runs.{Plan}
use Rattle.ledger.specs.Record.{room_slots}
use Rattle.checks.specs.Given.{Given}
use Rattle.flood.specs.Step.{step_number}
use Rattle.hatches.specs.Log.{Evening, line_fine, hatch_named}
use Rattle.hatches.specs.declared.log.Hatches.{Hatches}
use Rattle.hatches.specs.declared.log.Log.{Log}
use Rattle.evenings.specs.Taking.{world_of, back_from, after_back}
use Rattle.trying.specs.Lines.{Came, came, tried, name_refusals, name_tried, draw_refusals, draw_tried, log_at, try_refusals, step_given, step_came, evening_next, account_next, back_refusals, back_came, given_back, nothing_given}
use Rattle.trying.specs.declared.given.Account.{Account}
use Rattle.trying.specs.declared.lines.Tried.{Tried}
use Rattle.demands.specs.HatchLog.{Notes}
use Rattle.demands.specs.Desk.{Deed, naming, drawing, one_step, going_back, Desk, noted_deed, with_log, deed_came, desk_with, desk_after}

module _ (p : Plan) (g : Given) (e : Evening) (a : Account) where
  -- ---- `hatch`

  module _ (n row column : ℕ) where
    abbrev pub name_number : ℕ
    name_number = refusal (name_refusals p g.lie.rules g.inflow e.log n row column)

    pub name_made : name_number ≡ 0 → deed_came p g (naming n row column) e a ≡ with_log e (tried 0 (hatch_named e.log n row column) a)
    unfolding deed_came name_tried
    name_made z =
        let q : name_tried p g.lie.rules g.inflow e.log a n row column ≡ tried 0 (hatch_named e.log n row column) a = pick_true _ _ (eq-eqb _ _ z) in
        ap (λ (t : Tried). with_log e t) q

    pub name_refused : (name_number ≡ 0 → ⊥) → deed_came p g (naming n row column) e a ≡ came name_number e a
    unfolding deed_came name_tried
    name_refused d =
        let q : name_tried p g.lie.rules g.inflow e.log a n row column ≡ tried name_number e.log a = pick_false _ _ (ne_eqb _ _ d) in
        ap (λ (t : Tried). with_log e t) q

  -- ---- `draw`

  module _ (n litres : ℕ) where
    abbrev pub draw_number : ℕ
    draw_number = refusal (draw_refusals e.log n litres)

    pub draw_made : draw_number ≡ 0 → deed_came p g (drawing n litres) e a ≡ with_log e (tried 0 (log_at e.log (set e.log.litres (n - 1) litres)) a)
    unfolding deed_came draw_tried
    draw_made z =
        let q : draw_tried e.log a n litres ≡ tried 0 (log_at e.log (set e.log.litres (n - 1) litres)) a = pick_true _ _ (eq-eqb _ _ z) in
        ap (λ (t : Tried). with_log e t) q

    pub draw_refused : (draw_number ≡ 0 → ⊥) → deed_came p g (drawing n litres) e a ≡ came draw_number e a
    unfolding deed_came draw_tried
    draw_refused d =
        let q : draw_tried e.log a n litres ≡ tried draw_number e.log a = pick_false _ _ (ne_eqb _ _ d) in
        ap (λ (t : Tried). with_log e t) q

  -- ---- a step

  abbrev pub try_number : ℕ
  try_number = refusal (try_refusals g.inflow e.log a)

  abbrev pub own_number : ℕ
  own_number = step_number p (step_given p g e a) (world_of e)

  pub step_unfit : (try_number ≡ 0 → ⊥) → deed_came p g one_step e a ≡ came try_number e a
  unfolding deed_came step_came
  step_unfit d = pick_false _ _ (ne_eqb _ _ d)

  pub step-refused : try_number ≡ 0 → (own_number ≡ 0 → ⊥) → deed_came p g one_step e a ≡ came own_number e a
  unfolding deed_came step_came
  step-refused z d = pick_true _ _ (eq-eqb _ _ z) ∙ pick_false _ _ (ne_eqb _ _ d)

  pub step_made : try_number ≡ 0 → own_number ≡ 0 → deed_came p g one_step e a ≡ came 0 (evening_next p g e a) (account_next p g e a)
  unfolding deed_came step_came
  step_made z y = pick_true _ _ (eq-eqb _ _ z) ∙ pick_true _ _ (eq-eqb _ _ y)

  -- ---- `back`

  module _ (count : ℕ) where
    abbrev pub account_ago : Account
    account_ago = given_back a (room_slots p e.records) e.log.run.newest (back_from p count 0 (world_of e)).steps

    pub back_refused : (refusal (back_refusals e.log count) ≡ 0 → ⊥) → deed_came p g (going_back count) e a ≡ came (refusal (back_refusals e.log count)) e a
    unfolding deed_came back_came
    back_refused d = pick_false _ _ (ne_eqb _ _ d)

    pub back_taken : refusal (back_refusals e.log count) ≡ 0 → (back_from p count 0 (world_of e)).number ≡ 0 →
        deed_came p g (going_back count) e a ≡ came 0 (after_back p nothing_given e count) account_ago
    unfolding deed_came back_came
    back_taken z none = pick_true _ _ (eq-eqb _ _ z) ∙ ap (λ (k : ℕ). came k (after_back p nothing_given e count) account_ago) none

-- ---- the desk after it

module _ (p : Plan) (g : Given) (d : Deed) (x : Desk) where
  abbrev desk_of : Came → Desk
  desk_of c = record { at = c.evening; account = c.account; noted = pick (eqb c.number 0) (noted_deed d x.noted) x.noted }

  pub desk_stays : {n : ℕ} → deed_came p g d x.at x.account ≡ came n x.at x.account → (n ≡ 0 → ⊥) → desk_with p g d x ≡ x
  unfolding desk_with
  desk_stays q z =
      ap desk_of q ∙ ap (λ (m : Notes). record { at = x.at; account = x.account; noted = m }) (pick_false (noted_deed d x.noted) x.noted (ne_eqb _ _ z))

  pub desk_made : {e : Evening} {a : Account} → deed_came p g d x.at x.account ≡ came 0 e a → desk_with p g d x ≡ record { at = e; account = a; noted = noted_deed d x.noted }
  unfolding desk_with
  desk_made {e} {a} q =
      ap desk_of q ∙ ap (λ (m : Notes). record { at = e; account = a; noted = m }) (pick_true (noted_deed d x.noted) x.noted (eq-eqb 0 0 refl))

-- ---- once the opening is over, hatches stay

module _ (p : Plan) (g : Given) where
  pub record Named (hs : Hatches) (log : Log) : Type 0 where
    pub same : log.hatches ≡ hs
    pub over : log.opening ≡ false

  named-came : (d : Deed) (e : Evening) (a : Account) {hs : Hatches} → Named hs e.log → Named hs (deed_came p g d e a).evening.log
  unfolding deed_came draw_tried step_came back_came after_back line_fine
  named-came (naming n row column) e a {hs} h = go (ℕ_discrete (name_number p g e a n row column) 0)
    where
      go : Dec (name_number p g e a n row column ≡ 0) → Named hs (deed_came p g (naming n row column) e a).evening.log
      go (yes z) = not_both (every_each _ (refusal_passed _ tt z).0).0 h.over
      go (no d) = subst (λ (c : Came). Named hs c.evening.log) (sym (name_refused p g e a n row column d)) h
  named-came (drawing n litres) e a {hs} h =
      pick_both (λ (t : Tried). Named hs t.log) (eqb (refusal (draw_refusals e.log n litres)) 0) (record { same = h.same; over = h.over }) h
  named-came one_step e a {hs} h =
      pick_both (λ (c : Came). Named hs c.evening.log) (eqb (refusal (try_refusals g.inflow e.log a)) 0)
      (pick_both (λ (c : Came). Named hs c.evening.log) (eqb (step_number p (step_given p g e a) (world_of e)) 0) (record { same = h.same; over = refl }) h) h
  named-came (going_back count) e a {hs} h =
      pick_both (λ (c : Came). Named hs c.evening.log) (eqb (refusal (back_refusals e.log count)) 0) (record { same = h.same; over = refl }) h

  pub named_with : (d : Deed) (x : Desk) {hs : Hatches} → Named hs x.at.log → Named hs (desk_with p g d x).at.log
  unfolding desk_with
  named_with d x h = named-came d x.at x.account h

  pub named-after : (deeds : List Deed) (x : Desk) {hs : Hatches} → Named hs x.at.log → Named hs (desk_after p g deeds x).at.log
  unfolding desk_after
  named-after [] x h = h
  named-after (d ∷ rest) x h = named-after rest (desk_with p g d x) (named_with d x h)
