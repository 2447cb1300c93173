-- Every layer function of this crate leaves one outcome.
-- Assumes nothing.
use Rattle.std.specs.Prelude.{List, ℕ}
use Rattle.reckon.specs.Outcomes.{One}
use Rattle.grid.specs.declared.squares.Shape.{Shape}
use Rattle.desks.specs.Orders.{OrderRead}
use Rattle.desks.specs.State.{KeptSlots, DeskEmpty}
use Rattle.sheet.specs.Sheet.{rooms}
use Rattle.evenings.specs.Program.{Stores, stores}
use Rattle.desks.specs.Command.{Leaves, Wanted, step_left}
use Rattle.desks.specs.declared.state.Desk.{Desk}

-- the rooms with other depths, last leaving, records and rates
abbrev pub stores_after : Stores → List ℕ → List ℕ → List ℕ → List ℕ → Stores
stores_after r depths lasts records began =
    stores
    (rooms r.sheet.cells.marks r.sheet.cells.beds r.sheet.cells.roughness r.sheet.cells.rates depths r.sheet.rain
    r.sheet.inflow)
    lasts records began

pub record DesksDetermined : Type 0 where
  pub order_of : (line : List ℕ) → One (OrderRead line)
  pub wanted : (line : List ℕ) → One (Wanted line)
  pub kept-slots : (s : Shape) → One (KeptSlots s)
  pub empty-desk : One DeskEmpty
  pub make_further : (d : Desk) (r : Stores) (old : List ℕ) →
      One {Out = Desk × (List ℕ × (List ℕ × (List ℕ × (List ℕ × List ℕ))))}
      (λ o. Leaves (step_left d r) o.0 (stores_after r o.1.0 o.1.1.0 o.1.1.1.0 o.1.1.1.1.0) old o.1.1.1.1.1)
