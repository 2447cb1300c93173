-- The warden's desk, call by call: what `command` and `make_next` leave in the rooms that they are lent is what the deeds of Desk.antt come to. A
-- line that looks, or is refused, leaves everything as it was.
-- Assumes nothing.
use Rattle.std.specs.Prelude.{◌≡◌, Bool, true, false, List, [], ◌∷◌, ◌++◌, ℕ, length}
use Rattle.reckon.specs.Tests.{pick, every}
use Rattle.checks.specs.Given.{Given}
use Rattle.hatches.specs.Log.{Evening, most_hatches}
use Rattle.hatches.specs.declared.lines.Entry.TheVariants.{Hatch, Rate, Back}
use Rattle.evenings.specs.Program.{Stores, given_held}
use Rattle.stands.specs.Laying.{stand_of}
use Rattle.programs.specs.Reading.{sheet_within}
use Rattle.sheet.specs.declared.reading.Sheet.TheVariants.{Refused}
use Rattle.desks.specs.State.{desk_text, desk_squares, desk_numbers, desk_rates, kept_slots}
use Rattle.desks.specs.Lines.{ending_text, steps_left}
use Rattle.desks.specs.Command.{Left, evening_on, plan_on, ready_number, is_sheet, command_left, step_left}
use Rattle.desks.specs.declared.orders.Order.{Order}
use Rattle.desks.specs.declared.orders.Order.TheVariants.{Sheet, Entered, Draw, Step, Show, Arrows, Most, Stand, Lay, NoOrder}
use Rattle.desks.specs.declared.state.Desk.{Desk}
use Rattle.demands.specs.Desk as deeds
use Rattle.demands.specs.Desk.{Deed, naming, drawing, one_step, going_back, deed_came, desk_after}

-- ---- the deeds that lines are

-- whether a line lays something down: `sheet` and `lay`
unfoldable pub lays_down : Order → Bool
lays_down (Sheet bytes) = true
lays_down (Lay bytes) = true
lays_down (Entered entry) = false
lays_down (Draw n litres) = false
lays_down (Step count end every') = false
lays_down Show = false
lays_down Arrows = false
lays_down (Most end) = false
lays_down Stand = false
lays_down NoOrder = false

-- the deed that a line is; none for one that looks, and for `step`, whose steps are made by the calls after it
unfoldable pub deed_of : Order → List Deed
deed_of (Entered (Hatch n row column)) = naming n row column ∷ []
deed_of (Entered (Back count)) = going_back count ∷ []
deed_of (Entered (Rate clock n litres)) = []
deed_of (Draw n litres) = drawing n litres ∷ []
deed_of (Sheet bytes) = []
deed_of (Lay bytes) = []
deed_of (Step count end every') = []
deed_of Show = []
deed_of Arrows = []
deed_of (Most end) = []
deed_of Stand = []
deed_of NoOrder = []

-- the next step is a deed as long as one is to be made
unfoldable pub step_deed : Desk → List Deed
step_deed d = pick (every (d.series.on ∷ steps_left d.series d.log.run.clock ∷ [])) (one_step ∷ []) []

-- ---- what lies on the desk

-- the rooms that lines change are of the program's sizes
pub record RoomsWhole (r : Stores) : Type 0 where
  pub depths_long : length r.sheet.cells.depths ≡ desk_squares
  pub lasts_long : length r.lasts ≡ desk_squares
  pub records_long : length r.records ≡ desk_numbers
  pub began_long : length r.began ≡ desk_rates

-- and a sheet lies in them
pub record OnDesk (d : Desk) (r : Stores) : Type 0 where
  pub ready : ready_number d ≡ 0
  pub whole : RoomsWhole r

module _ (d : Desk) (r : Stores) where
  abbrev pub state_on : Evening
  state_on = evening_on d.heading r d.log

  abbrev pub ground_on : Given
  ground_on = given_held d.heading r

-- the desk of the deeds and the one of the calls have come to the same
pub record Standing (d : Desk) (r : Stores) (x : deeds.Desk) : Type 0 where
  pub at_is : x.at ≡ state_on d r
  pub account_is : x.account ≡ d.account

-- Looking changes nothing: rooms, log and account are as they were.
pub record Stays (d : Desk) (r : Stores) (l : Left) : Type 0 where
  pub rooms_stay : l.rooms ≡ r
  pub log_stays : l.desk.log ≡ d.log
  pub account_stays : l.desk.account ≡ d.account
  pub heading_stays : l.desk.heading ≡ d.heading
  pub ready_stays : l.desk.ready ≡ d.ready

-- Deeds are done: over the same sheet the state and the account left are those that they come to.
pub record Does (ds : List Deed) (d : Desk) (r : Stores) (l : Left) : Type 0 where
  pub plan_same : plan_on l.desk l.rooms ≡ plan_on d r
  pub ground_same : ground_on l.desk l.rooms ≡ ground_on d r
  pub still_on : OnDesk l.desk l.rooms
  pub does : (x : deeds.Desk) → Standing d r x → Standing l.desk l.rooms (desk_after (plan_on d r) (ground_on d r) ds x)

-- an answer that ends with `done`, or with `refused` and a number
pub record Ends (number : ℕ) (text : List ℕ) : Type 0 where
  pub before : List ℕ
  pub text_is : text ≡ before ++ ending_text number 0

abbrev pub EndsAs : Desk → Stores → List Deed → List ℕ → Type 0
EndsAs d r [] text = Unit {0}
EndsAs d r (deed ∷ rest) text = Ends (deed_came (plan_on d r) (ground_on d r) deed (state_on d r) d.account).number text

pub record DeskLines : Type 0 where
  -- `show`, `arrows`, `most`, `stand`, a `step` line and one that cannot be read
  pub looking : (d : Desk) (r : Stores) → OnDesk d r → (text : List ℕ) (o : Order) → lays_down o ≡ false → deed_of o ≡ [] → Stays d r (command_left d r text o)
  -- `hatch`, `draw` and `back` are the deeds of Desk.antt, and the number of the deed is the answer's; the next step of a `step` is one too
  pub each_line : (d : Desk) (r : Stores) → OnDesk d r → (text : List ℕ) (o : Order) → lays_down o ≡ false → Does (deed_of o) d r (command_left d r text o)
  pub line_ends : (d : Desk) (r : Stores) → OnDesk d r → (text : List ℕ) (o : Order) → lays_down o ≡ false → EndsAs d r (deed_of o) (command_left d r text o).text
  pub each_step : (d : Desk) (r : Stores) → OnDesk d r → length d.log.litres ≡ most_hatches → Does (step_deed d) d r (step_left d r)
  -- "no sheet yet": nothing changes, and no step is made
  pub not_ready : (d : Desk) (r : Stores) → (ready_number d ≡ 0 → ⊥) → (text : List ℕ) (o : Order) → is_sheet o ≡ false →
      Stays d r (command_left d r text o) × Stays d r (step_left d r)
  -- "the state stays as it was": of a sheet or a saved state that is cut off or refused
  pub sheet_cut : (d : Desk) (r : Stores) (text : List ℕ) (bytes : ℕ) → (length text ≡ bytes → ⊥) → Stays d r (command_left d r text (Sheet bytes))
  pub sheet_refused : (d : Desk) (r : Stores) (text : List ℕ) (bytes number line : ℕ) → sheet_within desk_text text r.sheet ≡ Refused number line →
      Stays d r (command_left d r text (Sheet bytes))
  pub lay_cut : (d : Desk) (r : Stores) → OnDesk d r → (text : List ℕ) (bytes : ℕ) → (length text ≡ bytes → ⊥) → Stays d r (command_left d r text (Lay bytes))
  pub lay_refused : (d : Desk) (r : Stores) → OnDesk d r → (text : List ℕ) (bytes : ℕ) →
      ((stand_of (plan_on d r) (ground_on d r).inflow (kept_slots d.heading.shape) text).number ≡ 0 → ⊥) → Stays d r (command_left d r text (Lay bytes))
