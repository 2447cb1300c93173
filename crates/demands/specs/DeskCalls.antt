-- An evening of calls at the warden's desk: from a sheet or a saved state laid down, whatever lines and steps follow, what lies in the rooms is
-- where their deeds bring it, so that all that Desk.antt says holds of the desk itself and of each frame that is printed.
-- Assumes nothing.
use Rattle.std.specs.Prelude.{◌≡◌, true, false, List, [], ◌∷◌, ◌++◌, ℕ, ◌+◌, ◌≤◌, length}
use Rattle.grid.specs.Marks.{Alike}
use Rattle.ledger.specs.Runs.{seen_of}
use Rattle.ledger.specs.Account.{water}
use Rattle.evenings.specs.Taking.{world_of}
use Rattle.evenings.specs.Program.{Stores}
use Rattle.hatches.specs.Log.{most_hatches}
use Rattle.hatches.specs.declared.lines.Entry.TheVariants.{Back}
use Rattle.stands.specs.Laying.{stand_of}
use Rattle.trying.specs.Lines.{step_came, back_came}
use Rattle.programs.specs.Reading.{sheet_within}
use Rattle.sheet.specs.declared.reading.Heading.{Heading}
use Rattle.sheet.specs.declared.reading.Sheet.TheVariants.{Read}
use Rattle.desks.specs.Orders.{order}
use Rattle.desks.specs.State.{desk_text, kept_slots}
use Rattle.desks.specs.Lines.{ending_text, state_text, steps_left}
use Rattle.desks.specs.Command.{Left, plan_on, command_left, step_left}
use Rattle.desks.specs.declared.orders.Order.TheVariants.{Sheet, Entered, Show, Lay}
use Rattle.desks.specs.declared.state.Desk.{Desk}
use Rattle.demands.specs.Desk as deeds
use Rattle.demands.specs.Desk.{Deed, one_step, at_first, deed_number, desk_after, Begins, OnlyStanding}
use Rattle.demands.specs.DeskLines.{lays_down, deed_of, step_deed, RoomsWhole, OnDesk, state_on, ground_on, Standing}

-- ---- call after call

-- a line with the text that came after it, or the next step of a line `step`
pub data Call : Type 0 where
  a_line : List ℕ → List ℕ → Call
  going_on : Call

-- what it leaves
abbrev pub called : Call → Desk → Stores → Left
called (a_line line text) d r = command_left d r text (order line)
called going_on d r = step_left d r

abbrev pub deeds_of : Call → Desk → List Deed
deeds_of (a_line line text) d = deed_of (order line)
deeds_of going_on d = step_deed d

-- it lays down neither a sheet nor a saved state
abbrev pub Tries : Call → Type 0
Tries (a_line line text) = lays_down (order line) ≡ false
Tries going_on = Unit {0}

abbrev pub AllTry : List Call → Type 0
AllTry [] = Unit {0}
AllTry (c ∷ rest) = Tries c × AllTry rest

-- the desk and its rooms after them, and all their deeds
unfoldable pub after_calls : List Call → Desk → Stores → Desk × Stores
after_calls [] d r = (d, r)
after_calls (c ∷ rest) d r = after_calls rest (called c d r).desk (called c d r).rooms

unfoldable pub deeds_in : List Call → Desk → Stores → List Deed
deeds_in [] d r = []
deeds_in (c ∷ rest) d r = deeds_of c d ++ deeds_in rest (called c d r).desk (called c d r).rooms

module _ (d : Desk) (r : Stores) where
  -- a beginning: "no step is kept", and the desk of the deeds there
  abbrev pub BeginsOn : Type 0
  BeginsOn = Begins (plan_on d r) (ground_on d r) (state_on d r) d.account

  -- "on + out + soak = start + given", by the numbers of the frame
  abbrev pub BalancedOn : Type 0
  BalancedOn = water (plan_on d r) (state_on d r).depths + d.log.run.outflow + d.log.run.soaked ≡ d.account.start + d.account.given

  -- the frame of what lies on the desk
  abbrev pub frame_on : List ℕ
  frame_on = state_text (plan_on d r) d.log d.account (state_on d r).depths

  abbrev pub starts_as : deeds.Desk
  starts_as = at_first (state_on d r) d.account

  -- where the deeds of so many calls bring it
  abbrev pub comes_to : List Call → deeds.Desk
  comes_to calls = desk_after (plan_on d r) (ground_on d r) (deeds_in calls d r) starts_as

  -- a step is to be made, and it is not refused
  pub record StepMade : Type 0 where
    pub is_next : step_deed d ≡ one_step ∷ []
    pub not_refused : (step_came (plan_on d r) (ground_on d r) (state_on d r) d.account).number ≡ 0

  -- another desk shows what this one does, and has its steps and its account
  abbrev pub AsBefore : Desk → Stores → Type 0
  AsBefore d' r' =
      (seen_of (world_of (state_on d' r')) ≡ seen_of (world_of (state_on d r))) × (d'.log.steps ≡ d.log.steps) ×
      (d'.account.start ≡ d.account.start) × (d'.account.given ≡ d.account.given)

-- Evening, of the calls themselves
pub record CallsCome (d : Desk) (r : Stores) (calls : List Call) (d' : Desk) (r' : Stores) : Type 0 where
  pub still_on : OnDesk d' r'
  pub plan_same : plan_on d' r' ≡ plan_on d r
  pub ground_same : ground_on d' r' ≡ ground_on d r
  pub standing : Standing d' r' (comes_to d r calls)
  pub only-standing : OnlyStanding (plan_on d r) (ground_on d r) (state_on d r) d.account (comes_to d r calls)
  -- the account in each frame
  pub balanced : BalancedOn d r → BalancedOn d' r'

pub record DeskCalls : Type 0 where
  -- a sheet that is read, and a saved state that is not refused, are beginnings; a sheet's is balanced
  pub sheet_begins : (d : Desk) (r : Stores) → RoomsWhole r → (text : List ℕ) (bytes : ℕ) (h : Heading) → length text ≡ bytes →
      sheet_within desk_text text r.sheet ≡ Read h →
      let l = command_left d r text (Sheet bytes) in
      OnDesk l.desk l.rooms × BeginsOn l.desk l.rooms × BalancedOn l.desk l.rooms
  pub lay_begins : (d : Desk) (r : Stores) → OnDesk d r → (text : List ℕ) (bytes : ℕ) → length text ≡ bytes → length text ≤ desk_text →
      (stand_of (plan_on d r) (ground_on d r).inflow (kept_slots d.heading.shape) text).number ≡ 0 →
      let l = command_left d r text (Lay bytes) in
      OnDesk l.desk l.rooms × BeginsOn l.desk l.rooms
  pub come : (d : Desk) (r : Stores) → OnDesk d r → BeginsOn d r → (calls : List Call) → AllTry calls →
      CallsCome d r calls (after_calls calls d r).0 (after_calls calls d r).1
  -- a call whose deed is refused leaves the state and the account as they were
  pub refused : (d : Desk) (r : Stores) → OnDesk d r → BeginsOn d r → (calls : List Call) (c : Call) (deed : Deed) → AllTry calls → Tries c →
      let now = after_calls calls d r in
      let l = called c now.0 now.1 in
      deeds_of c now.0 ≡ deed ∷ [] → (deed_number (plan_on d r) (ground_on d r) deed (comes_to d r calls) ≡ 0 → ⊥) →
      (state_on l.desk l.rooms ≡ state_on now.0 now.1) × (l.desk.account ≡ now.0.account)
  -- a trial taken back was never made: by the line `back` with the number of its steps
  pub gone : (d : Desk) (r : Stores) → OnDesk d r → BeginsOn d r → (calls trial : List Call) (line text : List ℕ) (made : List (List ℕ)) →
      AllTry (calls ++ trial) → order line ≡ Entered (Back (length made)) →
      (comes_to d r (calls ++ trial)).noted.standing ≡ made ++ (comes_to d r calls).noted.standing →
      let before = after_calls calls d r in
      let tried = after_calls (calls ++ trial) d r in
      let after = command_left tried.0 tried.1 text (order line) in
      length made ≤ tried.0.log.run.kept → AsBefore before.0 before.1 after.desk after.rooms
  -- so of one step: where the next step of a line `step` is made, the line `back 1` leaves what was seen before it
  pub step_gone : (d : Desk) (r : Stores) → OnDesk d r → BeginsOn d r → (calls : List Call) (line text : List ℕ) → AllTry calls → order line ≡ Entered (Back 1) →
      let before = after_calls calls d r in
      let tried = step_left before.0 before.1 in
      let after = command_left tried.desk tried.rooms text (order line) in
      StepMade before.0 before.1 → AsBefore before.0 before.1 after.desk after.rooms
  -- the frame that is printed is the text of the state left: by `show`, by a `back` that is made,
  pub show_frame : (d : Desk) (r : Stores) → OnDesk d r → (text : List ℕ) → (command_left d r text Show).text ≡ frame_on d r ++ ending_text 0 0
  pub back_frame : (d : Desk) (r : Stores) → OnDesk d r → (text : List ℕ) (count : ℕ) → (back_came (plan_on d r) (state_on d r) d.account count).number ≡ 0 →
      let l = command_left d r text (Entered (Back count)) in l.text ≡ frame_on l.desk l.rooms ++ ending_text 0 0
  -- by each step of "every 1", and at the end of "every 0"
  pub step_frame : (d : Desk) (r : Stores) → OnDesk d r → length d.log.litres ≡ most_hatches → d.series.on ≡ true → d.series.every ≡ true →
      steps_left d.series d.log.run.clock ≡ true → (step_came (plan_on d r) (ground_on d r) (state_on d r) d.account).number ≡ 0 →
      let l = step_left d r in l.text ≡ frame_on l.desk l.rooms
  pub end_frame : (d : Desk) (r : Stores) → OnDesk d r → d.series.on ≡ true → d.series.every ≡ false → steps_left d.series d.log.run.clock ≡ false →
      let l = step_left d r in l.text ≡ frame_on l.desk l.rooms ++ ending_text 0 0
  -- walls: what closed squares hold is not in it
  pub walls : (d : Desk) (r s : Stores) → OnDesk d r → OnDesk d s → plan_on d r ≡ plan_on d s → Alike (plan_on d r).marks (state_on d r).depths (state_on d s).depths →
      (text : List ℕ) → (command_left d r text Show).text ≡ (command_left d s text Show).text
