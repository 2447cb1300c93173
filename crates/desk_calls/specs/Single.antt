-- What the caller of the desk's calls has: the theorems of the desk's lines, of the desk and the rooms that a call leaves and of its answer.
-- Assumes nothing.
use Rattle.std.specs.Prelude.{◌≡◌, false, List, [], ℕ, length, take}
use Rattle.hatches.specs.Log.{most_hatches}
use Rattle.evenings.specs.Program.{Stores}
use Rattle.desks.specs.Orders.{order}
use Rattle.desks.specs.Command.{Left, left, ready_number, is_sheet}
use Rattle.desks.specs.declared.state.Desk.{Desk}
use Rattle.demands.specs.DeskLines.{lays_down, deed_of, step_deed, OnDesk, Stays, Does, EndsAs}
use Rattle.demands.specs.DeskCalls.{a_line, going_on, called}

-- the desk, the rooms, and as much of the answer's room as the desk tells
abbrev pub left_with : Desk → Stores → List ℕ → Left
left_with a after out = left a after (take a.length out)

-- a line, with the text that came after it
pub record AfterCommand (d : Desk) (r : Stores) (line text : List ℕ) (l : Left) : Type 0 where
  -- it is one of the calls of an evening, of which `DeskCalls` speaks
  pub is_call : l ≡ called (a_line line text) d r
  -- looking changes nothing
  pub looking : OnDesk d r → lays_down (order line) ≡ false → deed_of (order line) ≡ [] → Stays d r l
  -- each line is its deed, and the answer ends with the deed's number
  pub does : OnDesk d r → lays_down (order line) ≡ false → Does (deed_of (order line)) d r l
  pub ends : OnDesk d r → lays_down (order line) ≡ false → EndsAs d r (deed_of (order line)) l.text
  -- "no sheet yet"
  pub not_ready : (ready_number d ≡ 0 → ⊥) → is_sheet (order line) ≡ false → Stays d r l

-- the next step of a line `step`
pub record AfterNext (d : Desk) (r : Stores) (l : Left) : Type 0 where
  pub is_call : l ≡ called going_on d r
  pub does : OnDesk d r → length d.log.litres ≡ most_hatches → Does (step_deed d) d r l
  pub not_ready : (ready_number d ≡ 0 → ⊥) → Stays d r l
