-- Two desks at once, of the calls themselves: whatever the order, each comes out as by its own calls alone. And what one desk's `stand` printed,
-- another's `lay` reads: it is not refused, shows the same and goes on alike.
-- Assumes nothing.
use Rattle.std.specs.Prelude.{◌≡◌, true, List, [], ◌∷◌, ◌++◌, ℕ, ◌≤◌, length, get_or}
use Rattle.grid.specs.Marks.{closed}
use Rattle.evenings.specs.Program.{Stores}
use Rattle.programs.specs.Reading.{sheet_within}
use Rattle.sheet.specs.declared.reading.Heading.{Heading}
use Rattle.sheet.specs.declared.reading.Sheet.TheVariants.{Read}
use Rattle.stands.specs.Laying.{stand_of}
use Rattle.stands.specs.Texts.{stand_text}
use Rattle.desks.specs.State.{desk_text, desk_squares, kept_slots, no_series}
use Rattle.hatches.specs.declared.log.Log.{Log}
use Rattle.desks.specs.Lines.{saved_of, done_text, ending_text, state_text}
use Rattle.desks.specs.Command.{Left, plan_on, command_left}
use Rattle.desks.specs.declared.orders.Order.TheVariants.{Sheet, Stand, Lay}
use Rattle.desks.specs.declared.state.Desk.{Desk}
use Rattle.demands.specs.Desk.{Deed, desk_after, ShownAlike, numbers_of, AllWithin}
use Rattle.demands.specs.DeskLines.{RoomsWhole, OnDesk, state_on, ground_on}
use Rattle.demands.specs.DeskCalls.{Call, called, after_calls, AllTry, BeginsOn, BalancedOn, frame_on, starts_as, comes_to}

-- ---- two desks

-- a call at the one desk or at the other
pub data CallTurn : Type 0 where
  call_one : Call → CallTurn
  call_other : Call → CallTurn

-- the calls of each
unfoldable pub calls_of_one : List CallTurn → List Call
calls_of_one [] = []
calls_of_one (call_one c ∷ rest) = c ∷ calls_of_one rest
calls_of_one (call_other c ∷ rest) = calls_of_one rest

unfoldable pub calls_of_other : List CallTurn → List Call
calls_of_other [] = []
calls_of_other (call_one c ∷ rest) = calls_of_other rest
calls_of_other (call_other c ∷ rest) = c ∷ calls_of_other rest

-- both desks, each with its rooms
pub record Both : Type 0 where
  pub one : Desk × Stores
  pub other : Desk × Stores

unfoldable pub calls_in_turn : List CallTurn → Desk → Stores → Desk → Stores → Both
calls_in_turn [] d r d' r' = record { one = (d, r); other = (d', r') }
calls_in_turn (call_one c ∷ rest) d r d' r' = calls_in_turn rest (called c d r).desk (called c d r).rooms d' r'
calls_in_turn (call_other c ∷ rest) d r d' r' = calls_in_turn rest d r (called c d' r').desk (called c d' r').rooms

pub record TwoDesksCalled : Type 0 where
  pub apart : (turns : List CallTurn) (d : Desk) (r : Stores) (d' : Desk) (r' : Stores) →
      calls_in_turn turns d r d' r' ≡ record { one = after_calls (calls_of_one turns) d r; other = after_calls (calls_of_other turns) d' r' }

-- ---- what `stand` printed, `lay` reads

-- the text of what lies on the desk
abbrev pub stand_on : Desk → Stores → List ℕ
stand_on d r = stand_text (plan_on d r) (state_on d r).depths (state_on d r).lasts (saved_of d.log d.account)

-- a log with so many steps kept, and the frame of a desk with it
abbrev pub keeping : ℕ → Log → Log
keeping k log =
    record {
      run = record { clock = log.run.clock; length = log.run.length; outflow = log.run.outflow; kept = k; newest = log.run.newest; soaked = log.run.soaked };
      steps = log.steps;
      opening = log.opening;
      hatches = log.hatches;
      litres = log.litres;
    }

abbrev pub frame_keeping : ℕ → Desk → Stores → List ℕ
frame_keeping k d r = state_text (plan_on d r) (keeping k d.log) d.account (state_on d r).depths

-- a desk with the same sheet: closed squares, which no text tells of, hold the same
pub record SameSheet (d : Desk) (r : Stores) (d' : Desk) (r' : Stores) : Type 0 where
  pub on : OnDesk d' r'
  pub marks_whole : length r'.sheet.cells.marks ≡ desk_squares
  pub plan_same : plan_on d' r' ≡ plan_on d r
  pub ground_same : ground_on d' r' ≡ ground_on d r
  pub depths-closed : (i : ℕ) → closed (plan_on d' r').marks i ≡ true → get_or (state_on d' r').depths i 0 ≡ get_or (state_on d r).depths i 0
  pub lasts_closed : (i : ℕ) → closed (plan_on d' r').marks i ≡ true → get_or (state_on d' r').lasts i 0 ≡ get_or (state_on d r).lasts i 0

-- after calls at the one desk, its text is laid on the other
module _ (d : Desk) (r : Stores) (calls : List Call) (d' : Desk) (r' : Stores) where
  abbrev pub saved_text : List ℕ
  saved_text = stand_on (after_calls calls d r).0 (after_calls calls d r).1

  abbrev pub laid_on : Left
  laid_on = command_left d' r' saved_text (Lay (length saved_text))

  pub record LaidAgain : Type 0 where
    -- it is what `stand` answers
    pub printed : (text : List ℕ) → (command_left (after_calls calls d r).0 (after_calls calls d r).1 text Stand).text ≡ saved_text ++ done_text
    -- `lay` does not refuse it, and the desk begins there
    pub on : OnDesk laid_on.desk laid_on.rooms
    pub begins : BeginsOn laid_on.desk laid_on.rooms
    -- over the same sheet, with no steps of a line `step` to make
    pub plan_same : plan_on laid_on.desk laid_on.rooms ≡ plan_on d r
    pub ground_same : ground_on laid_on.desk laid_on.rooms ≡ ground_on d r
    pub still : laid_on.desk.series ≡ no_series
    pub answered : laid_on.text ≡ frame_on laid_on.desk laid_on.rooms ++ ending_text 0 0
    -- it answers with the frame of the desk that was saved, but that no step is kept
    pub same_frame : laid_on.text ≡ frame_keeping 0 (after_calls calls d r).0 (after_calls calls d r).1 ++ ending_text 0 0
    -- the same is shown, and by the same deeds, of which no `back` goes below that place, it stays so, with the same refusals
    pub shown : ShownAlike (plan_on d r) (ground_on d r) (comes_to d r calls) (starts_as laid_on.desk laid_on.rooms)
    pub goes_on : (further : List Deed) → AllWithin (plan_on d r) (ground_on d r) further (starts_as laid_on.desk laid_on.rooms) →
        (numbers_of (plan_on d r) (ground_on d r) further (comes_to d r calls) ≡ numbers_of (plan_on d r) (ground_on d r) further (starts_as laid_on.desk laid_on.rooms)) ×
        ShownAlike (plan_on d r) (ground_on d r) (desk_after (plan_on d r) (ground_on d r) further (comes_to d r calls))
        (desk_after (plan_on d r) (ground_on d r) further (starts_as laid_on.desk laid_on.rooms))

-- from this desk on, whatever calls follow
abbrev pub ReadAgain : Desk → Stores → Type 0
ReadAgain d r =
    (calls : List Call) → AllTry calls → (d' : Desk) (r' : Stores) → SameSheet (after_calls calls d r).0 (after_calls calls d r).1 d' r' → LaidAgain d r calls d' r'

pub record StandReadBack : Type 0 where
  -- from a sheet that is read
  pub from_sheet : (d : Desk) (r : Stores) → RoomsWhole r → (text : List ℕ) (bytes : ℕ) (h : Heading) → length text ≡ bytes →
      sheet_within desk_text text r.sheet ≡ Read h → let l = command_left d r text (Sheet bytes) in ReadAgain l.desk l.rooms
  -- from a saved state that is not refused, and whose account holds
  pub from_lay : (d : Desk) (r : Stores) → OnDesk d r → length r.sheet.cells.marks ≡ desk_squares → (text : List ℕ) (bytes : ℕ) → length text ≡ bytes →
      length text ≤ desk_text → (stand_of (plan_on d r) (ground_on d r).inflow (kept_slots d.heading.shape) text).number ≡ 0 →
      let l = command_left d r text (Lay bytes) in BalancedOn l.desk l.rooms → ReadAgain l.desk l.rooms
