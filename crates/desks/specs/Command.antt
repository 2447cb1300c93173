-- The desk's calls over its rooms: a line with the text that came after it, and the next step of a line `step`.
-- Assumes nothing.
use Rattle.std.specs.Prelude.{◌≡◌, Bool, true, false, List, [], ◌∷◌, ◌++◌, ℕ, ◌*◌, eqb, length, take, replicate}
use Rattle.reckon.specs.Tests.{pick, refusal, ◌unless◌}
use Rattle.reckon.specs.Lists.{placed}
use Rattle.reckon.specs.Tables.{inflow_kind}
use Rattle.grid.specs.Squares.{squares}
use Rattle.ledger.specs.Runs.{Plan, plan}
use Rattle.ledger.specs.Account.{water}
use Rattle.sheet.specs.Sheet.{rooms, rooms_after}
use Rattle.sheet.specs.declared.reading.Heading.{Heading}
use Rattle.sheet.specs.declared.reading.Sheet.{Sheet}
use Rattle.sheet.specs.declared.reading.Sheet.TheVariants.{Read, Refused}
use Rattle.programs.specs.Reading.{sheet_within}
use Rattle.hatches.specs.Log.{Evening, evening}
use Rattle.evenings.specs.Program.{Stores, stores, plan_held, given_held}
use Rattle.hatches.specs.declared.log.Log.{Log}
use Rattle.trying.specs.Given.{account_opened}
use Rattle.desks.specs.Orders.{order}
use Rattle.desks.specs.State.{desk_text, records_on, rates_on, heading_fine, no_series, fresh_log, fresh_desk, desk_with}
use Rattle.desks.specs.Lines.{Told, ending_text, state_text, order_told, next_told, Puts}
use Rattle.desks.specs.declared.orders.Order.{Order}
use Rattle.desks.specs.declared.orders.Order.TheVariants as orders
use Rattle.desks.specs.declared.state.Desk.{Desk}

-- "as many bytes as it counts": how many come after a line
unfoldable pub wanted_by : Order → ℕ
wanted_by (orders.Sheet bytes) = bytes
wanted_by (orders.Lay bytes) = bytes
wanted_by (orders.Entered entry) = 0
wanted_by (orders.Draw n litres) = 0
wanted_by (orders.Step count end every) = 0
wanted_by orders.Show = 0
wanted_by orders.Arrows = 0
wanted_by (orders.Most end) = 0
wanted_by orders.Stand = 0
wanted_by orders.NoOrder = 0

-- whether a line brings a sheet
unfoldable pub is_sheet : Order → Bool
is_sheet (orders.Sheet bytes) = true
is_sheet (orders.Lay bytes) = false
is_sheet (orders.Entered entry) = false
is_sheet (orders.Draw n litres) = false
is_sheet (orders.Step count end every) = false
is_sheet orders.Show = false
is_sheet orders.Arrows = false
is_sheet (orders.Most end) = false
is_sheet orders.Stand = false
is_sheet orders.NoOrder = false

-- ---- what of the rooms belongs to the sheet on the desk

module _ (h : Heading) (r : Stores) where
  abbrev pub evening_on : Log → Evening
  evening_on log =
      evening (take (squares h.shape) r.sheet.cells.depths) (take (squares h.shape) r.lasts) (take (records_on h.shape) r.records)
      (take (rates_on h.shape) r.began) log

  abbrev pub inflow_on : List ℕ
  inflow_on = take (inflow_kind.width * h.inflow_rows) r.sheet.inflow

-- the rooms with an evening in their first parts, "the rest of it stays"
abbrev pub stores_with : Stores → Evening → Stores
stores_with r e =
    stores
    (rooms r.sheet.cells.marks r.sheet.cells.beds r.sheet.cells.roughness r.sheet.cells.rates
    (placed r.sheet.cells.depths 0 e.depths) r.sheet.rain r.sheet.inflow)
    (placed r.lasts 0 e.lasts) (placed r.records 0 e.records) (placed r.began 0 e.began)

-- What a call leaves: the desk, the rooms, and its answer.
pub record Left : Type 0 where
  pub desk : Desk
  pub rooms : Stores
  pub text : List ℕ

abbrev pub left : Desk → Stores → List ℕ → Left
left d r t = record { desk = d; rooms = r; text = t }

-- of a call over the sheet on the desk
abbrev pub told_on : Desk → Stores → Told → Left
told_on d r t = left (desk_with d t.evening.log t.account t.series (length t.text)) (stores_with r t.evening) t.text

-- a call that changes nothing
abbrev pub untouched : Desk → Stores → List ℕ → Left
untouched d r t = left (desk_with d d.log d.account no_series (length t)) r t

-- ---- `sheet` bytes, then the text

-- the water on its ground is the start's
abbrev pub start_on : Heading → List ℕ → List ℕ → ℕ
start_on h marks depths = water (plan h.shape (take (squares h.shape) marks)) (take (squares h.shape) depths)

-- its frame, before the first step
abbrev pub first_text : Heading → List ℕ → List ℕ → List ℕ
first_text h marks depths =
    state_text (plan h.shape (take (squares h.shape) marks)) (fresh_log h) (account_opened (start_on h marks depths) 0) (take (squares h.shape) depths)
    ++ ending_text 0 0

-- a sheet that was read, with no last leaving; or one that is refused
unfoldable pub sheet_left : List ℕ → Sheet → Desk → Stores → Left
sheet_left text (Read h) d r =
    let held = rooms_after text (Read h) r.sheet in
    left
    (fresh_desk h (start_on h held.cells.marks held.cells.depths) (length (first_text h held.cells.marks held.cells.depths)))
    (stores held (replicate (length r.lasts) 0) r.records r.began) (first_text h held.cells.marks held.cells.depths)
sheet_left text (Refused number line) d r = untouched d r (ending_text number line)

-- ---- any line

-- 12 "no sheet yet", 1 of a heading that no sheet has
unfoldable pub ready_number : Desk → ℕ
ready_number d = refusal (12 unless d.ready ∷ 1 unless heading_fine d.heading ∷ [])

module _ (d : Desk) (r : Stores) where
  abbrev pub plan_on : Plan
  plan_on = plan_held d.heading r

  unfoldable pub other_left : List ℕ → Order → Left
  other_left text o =
      pick (eqb (ready_number d) 0)
      (told_on d r (order_told plan_on (evening_on d.heading r d.log) d.account d.heading.rules (inflow_on d.heading r) text o))
      (untouched d r (ending_text (ready_number d) 0))

  -- 12 "a text cut off"
  unfoldable pub command_left : List ℕ → Order → Left
  command_left text o =
      pick (is_sheet o)
      (pick (eqb (length text) (wanted_by o)) (sheet_left text (sheet_within desk_text text r.sheet) d r) (untouched d r (ending_text 12 0)))
      (other_left text o)

  -- the next step of a line `step`; nothing where none is to be made
  unfoldable pub step_left : Left
  step_left =
      pick d.series.on
      (pick (eqb (ready_number d) 0)
      (told_on d r (next_told plan_on (given_held d.heading r) (evening_on d.heading r d.log) d.account d.series))
      (untouched d r (ending_text (ready_number d) 0)))
      (untouched d r [])

-- ---- what the public functions give

abbrev pub Wanted : List ℕ → ℕ → Type 0
Wanted line n = n ≡ wanted_by (order line)

-- the desk, the rooms and the answer, at the start of its room
pub record Leaves (l : Left) (a : Desk) (after : Stores) (old new : List ℕ) : Type 0 where
  pub desk_is : a ≡ l.desk
  pub rooms_are : after ≡ l.rooms
  pub puts : Puts l.text old new
