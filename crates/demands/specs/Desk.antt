-- The warden's desk: whatever lines an evening has, what stands is the first state with only the steps still standing, each at its own rates,
-- and no water is lost; a trial taken back was never made.
-- Assumes nothing.
use Rattle.std.specs.Prelude.{◌≡◌, List, [], ◌∷◌, ◌++◌, map, ℕ, ◌+◌, ◌-◌, ◌≤◌, ◌<◌, eqb, length, set}
use Rattle.reckon.specs.Tests.{pick}
use Rattle.reckon.specs.Tables.{inflow_kind, table_room}
use Rattle.trials.specs.Ring.{slots_in}
use Rattle.rule.specs.declared.rules.Rules.{Rules}
use Rattle.ledger.specs.Runs.{Plan, seen_of}
use Rattle.ledger.specs.Record.{room_slots}
use Rattle.ledger.specs.Account.{water, held}
use Rattle.ledger.specs.declared.runs.Run.{Run}
use Rattle.ledger.specs.declared.runs.Answer.TheVariants.{Done}
use Rattle.checks.specs.Given.{Given}
use Rattle.checks.specs.Fresh.{Freshens}
use Rattle.flood.specs.Step.{step_number}
use Rattle.hatches.specs.Log.{Evening, evening, opened, most_hatches, table_with}
use Rattle.evenings.specs.Taking.{drawn, world_of}
use Rattle.stands.specs.Laying.{most_given, Water, Lays}
use Rattle.stands.specs.declared.saved.Laid.{Laid}
use Rattle.trying.specs.Given.{most_slots, account_opened}
use Rattle.trying.specs.Lines.{Came, came, step_given, name_tried, draw_tried, step_came, back_came}
use Rattle.trying.specs.declared.given.Account.{Account}
use Rattle.trying.specs.declared.lines.Tried.{Tried}
use Rattle.demands.specs.Demand3.{alone, AllMade, Fresh}
use Rattle.demands.specs.Account.{all_given}
use Rattle.demands.specs.HatchLog.{Notes, notes, noted_back}

-- What a line of the desk can change: `hatch` number row column, `draw` number litres, one step of a `step`, `back` count. Lines that look
-- change nothing.
pub data Deed : Type 0 where
  naming : ℕ → ℕ → ℕ → Deed
  drawing : ℕ → ℕ → Deed
  one_step : Deed
  going_back : ℕ → Deed

-- Where an evening has come to: its state and its account as the library works them, and what one would note beside them on paper.
pub record Desk : Type 0 where
  pub at : Evening
  pub account : Account
  pub noted : Notes

-- before the first deed, with whatever `sheet` or `lay` gave
abbrev pub at_first : Evening → Account → Desk
at_first e a = record { at = e; account = a; noted = notes e.log.litres [] }

-- a deed that is not refused, on paper
unfoldable pub noted_deed : Deed → Notes → Notes
noted_deed (naming n row column) m = m
noted_deed (drawing n litres) m = notes (set m.litres (n - 1) litres) m.standing
noted_deed one_step m = notes m.litres (m.litres ∷ m.standing)
noted_deed (going_back count) m = noted_back count m

-- a line that changes the log alone
abbrev pub with_log : Evening → Tried → Came
with_log e t = came t.number (evening e.depths e.lasts e.records e.began t.log) t.account

module _ (p : Plan) (g : Given) where
  -- the number that a deed is refused with, 0 for none, and the state and the account after it
  unfoldable pub deed_came : Deed → Evening → Account → Came
  deed_came (naming n row column) e a = with_log e (name_tried p g.lie.rules g.inflow e.log a n row column)
  deed_came (drawing n litres) e a = with_log e (draw_tried e.log a n litres)
  deed_came one_step e a = step_came p g e a
  deed_came (going_back count) e a = back_came p e a count

  abbrev pub deed_number : Deed → Desk → ℕ
  deed_number d x = (deed_came d x.at x.account).number

  -- a refused deed is not noted
  unfoldable pub desk_with : Deed → Desk → Desk
  desk_with d x =
      record {
        at = (deed_came d x.at x.account).evening;
        account = (deed_came d x.at x.account).account;
        noted = pick (eqb (deed_number d x) 0) (noted_deed d x.noted) x.noted;
      }

  -- deed after deed, refused ones among them
  unfoldable pub desk_after : List Deed → Desk → Desk
  desk_after [] x = x
  desk_after (d ∷ rest) x = desk_after rest (desk_with d x)

  -- "each with its own rates": what is given to each standing step, the newest first
  abbrev pub givens_of : Desk → List Given
  givens_of x = map (drawn g x.at.log.hatches) x.noted.standing

  -- what `sheet` and `lay` begin with: no step is kept, a slot of rates and of the account stands beside each record, the sheet's rows with the
  -- hatches' fit the table, and no more steps stand than ms have passed
  pub record Begins (e : Evening) (a : Account) : Type 0 where
    pub fresh : Fresh p (world_of e)
    pub some : 0 < room_slots p e.records
    pub slots_few : room_slots p e.records ≤ most_slots
    pub rates_suffice : room_slots p e.records ≤ slots_in most_hatches (length e.began)
    pub rates_nine : length e.log.litres ≡ most_hatches
    pub account_long : length a.before ≡ most_slots
    pub table_fits : length (table_with g.inflow e.log.hatches e.log.litres) ≤ table_room inflow_kind
    pub steps_low : e.log.steps ≤ e.log.run.clock
    pub given_low : a.given ≤ most_given

  -- "on + out + soak = start + given"
  abbrev pub Balanced : Evening → Account → Type 0
  Balanced e a = held p (world_of e) ≡ a.start + a.given

  -- Evening: what holds wherever deeds have come to from a beginning.
  pub record OnlyStanding (e : Evening) (a : Account) (x : Desk) : Type 0 where
    -- the hatches run at the rates noted
    pub rates_are : x.at.log.litres ≡ x.noted.litres
    pub steps_are : x.at.log.steps ≡ length x.noted.standing + e.log.steps
    -- none of the standing steps is refused where they alone are made, each at the rates it was made at
    pub all_made : AllMade p (givens_of x) (world_of e)
    -- and depths, last leaving, clock, length, outflow and soaked are those that they alone give
    pub same_seen : seen_of (world_of x.at) ≡ seen_of (alone p (givens_of x) (world_of e))
    -- no `back` goes below the beginning
    pub kept_low : x.at.log.run.kept ≤ length x.noted.standing
    -- the account: what tables and hatches gave the standing steps, each between its own clocks
    pub start_is : x.account.start ≡ a.start
    pub given_is : x.account.given ≡ a.given + all_given p (givens_of x) (world_of e)
    pub balanced : Balanced e a → Balanced x.at x.account

  pub record DeskEvening : Type 0 where
    pub only-standing : (e : Evening) (a : Account) → Begins e a → (deeds : List Deed) → OnlyStanding e a (desk_after deeds (at_first e a))
    -- a deed that is refused changes nothing
    pub refused_stays : (e : Evening) (a : Account) → Begins e a → (deeds : List Deed) (d : Deed) →
        let x = desk_after deeds (at_first e a) in (deed_number d x ≡ 0 → ⊥) → desk_with d x ≡ x
    -- a `back` within what is kept is made whole, and one beyond it is refused by 10
    pub back_whole : (e : Evening) (a : Account) → Begins e a → (deeds : List Deed) (count : ℕ) →
        let x = desk_after deeds (at_first e a) in count ≤ x.at.log.run.kept → deed_number (going_back count) x ≡ 0
    pub back_beyond : (e : Evening) (a : Account) → Begins e a → (deeds : List Deed) (count : ℕ) →
        let x = desk_after deeds (at_first e a) in x.at.log.run.kept < count → deed_number (going_back count) x ≡ 10
    -- a step is refused by what document 01's step refuses and by nothing else
    pub step-alone : (e : Evening) (a : Account) → Begins e a → Balanced e a → (deeds : List Deed) →
        let x = desk_after deeds (at_first e a) in
        deed_number one_step x ≡ step_number p (step_given p g x.at x.account) (world_of x.at)
    -- a sheet's fresh run, with the water on its squares as the start, is a beginning, and balanced
    pub from_sheet : (r : Rules) (depths records before lasts began : List ℕ) (u : Run) → Freshens p r before records (Done u) lasts →
        room_slots p records ≤ most_slots → room_slots p records ≤ slots_in most_hatches (length began) → length g.inflow ≤ table_room inflow_kind →
        let e = evening depths lasts records began (opened u) in
        Begins e (account_opened (water p depths) 0) × Balanced e (account_opened (water p depths) 0)
    -- a saved state that `lay` did not refuse is a beginning; it is balanced where what was saved was, which `lay` does not ask
    pub from_lay : (s records began : List ℕ) (before after : Water) (l : Laid) → Lays p g.inflow (room_slots p records) s before l after → l.number ≡ 0 →
        room_slots p records ≤ most_slots → room_slots p records ≤ slots_in most_hatches (length began) →
        Begins (evening after.depths after.lasts records began l.saved.log) (account_opened l.saved.start l.saved.given)

  -- A trial taken back was never made: after deeds, and a trial by which some steps stand besides and none of the first was taken back, a `back`
  -- of these steps, as long as they are kept, and all that is seen, the steps standing and the account are as before the trial.
  pub record DeskTakenBack : Type 0 where
    pub gone : (e : Evening) (a : Account) → Begins e a → (deeds trial : List Deed) (made : List (List ℕ)) →
        let before = desk_after deeds (at_first e a) in
        let tried = desk_after trial before in
        let after = desk_with (going_back (length made)) tried in
        tried.noted.standing ≡ made ++ before.noted.standing → length made ≤ tried.at.log.run.kept →
        (seen_of (world_of after.at) ≡ seen_of (world_of before.at)) ×
        (after.at.log.steps ≡ before.at.log.steps) ×
        (after.account.start ≡ before.account.start) ×
        (after.account.given ≡ before.account.given)

  -- ---- saved is not interrupted

  -- what is shown of two desks is the same: all but how many steps are kept
  pub record ShownAlike (x y : Desk) : Type 0 where
    pub seen : seen_of (world_of x.at) ≡ seen_of (world_of y.at)
    pub steps : x.at.log.steps ≡ y.at.log.steps
    pub opening : x.at.log.opening ≡ y.at.log.opening
    pub hatches : x.at.log.hatches ≡ y.at.log.hatches
    pub litres : x.at.log.litres ≡ y.at.log.litres
    pub start : x.account.start ≡ y.account.start
    pub given : x.account.given ≡ y.account.given

  -- the number that each deed is refused with, 0 for none
  unfoldable pub numbers_of : List Deed → Desk → List ℕ
  numbers_of [] x = []
  numbers_of (d ∷ rest) x = deed_number d x ∷ numbers_of rest (desk_with d x)

  -- no `back` among them goes below where the desk began
  abbrev pub Within : Deed → Desk → Type 0
  Within (going_back count) x = count ≤ x.at.log.run.kept
  Within (naming n row column) x = Unit {0}
  Within (drawing n litres) x = Unit {0}
  Within one_step x = Unit {0}

  abbrev pub AllWithin : List Deed → Desk → Type 0
  AllWithin [] x = Unit {0}
  AllWithin (d ∷ rest) x = Within d x × AllWithin rest (desk_with d x)

  -- a desk that an evening brought somewhere, and one that began there, with no step kept and as many slots: by the same deeds, of which no `back`
  -- goes below that place, the same are refused by the same numbers, and the same is shown
  pub record DeskSaved : Type 0 where
    pub goes_on : (e : Evening) (a : Account) → Begins e a → (deeds : List Deed) → (e' : Evening) (a' : Account) → Begins e' a' →
        let x = desk_after deeds (at_first e a) in
        let y = at_first e' a' in
        ShownAlike x y → room_slots p e'.records ≡ room_slots p e.records → (further : List Deed) → AllWithin further y →
        (numbers_of further x ≡ numbers_of further y) × ShownAlike (desk_after further x) (desk_after further y)

-- ---- two desks

-- a deed at the one desk or at the other, each with its own sheet
pub data Turn : Type 0 where
  at_one : Deed → Turn
  at_other : Deed → Turn

-- the deeds of each
unfoldable pub of_one : List Turn → List Deed
of_one [] = []
of_one (at_one d ∷ rest) = d ∷ of_one rest
of_one (at_other d ∷ rest) = of_one rest

unfoldable pub of_other : List Turn → List Deed
of_other [] = []
of_other (at_one d ∷ rest) = of_other rest
of_other (at_other d ∷ rest) = d ∷ of_other rest

module _ (p : Plan) (g : Given) (q : Plan) (h : Given) where
  unfoldable pub in_turn : List Turn → Desk → Desk → Desk × Desk
  in_turn [] x y = (x, y)
  in_turn (at_one d ∷ rest) x y = in_turn rest (desk_with p g d x) y
  in_turn (at_other d ∷ rest) x y = in_turn rest x (desk_with q h d y)

  -- whatever the order, each comes to where its own deeds alone bring it
  pub record TwoDesks : Type 0 where
    pub apart : (turns : List Turn) (x y : Desk) → in_turn turns x y ≡ (desk_after p g (of_one turns) x, desk_after q h (of_other turns) y)
