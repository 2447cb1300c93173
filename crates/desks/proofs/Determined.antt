-- Every contract leaves one outcome: each is an equation for all that a call gives.
-- Assumes nothing.
use mathlib.Core.Path.{sym, ◌∙◌}
use mathlib.Core.List.{List}
use Prim.Native.Nat.{ℕ}
use Rattle.reckon.specs.Outcomes.{One}
use Rattle.reckon.proofs.OutcomeLaws.{exactly}
use Rattle.evenings.specs.Program.{Stores}
use Rattle.desks.specs.Command.{Leaves, step_left}
use Rattle.desks.specs.Inner.Determined.{DesksDetermined, stores_after}
use Rattle.desks.specs.declared.state.Desk.{Desk}

further_one :
    (d : Desk) (r : Stores) (old : List ℕ) →
    One {Out = Desk × (List ℕ × (List ℕ × (List ℕ × (List ℕ × List ℕ))))}
    (λ o. Leaves (step_left d r) o.0 (stores_after r o.1.0 o.1.1.0 o.1.1.1.0 o.1.1.1.1.0) old o.1.1.1.1.1)
further_one d r old a b x y =
    let v = x.rooms_are ∙ sym y.rooms_are in
    λ j. (
      (x.desk_is ∙ sym y.desk_is) j,
      (
        (v j).sheet.cells.depths,
        ((v j).lasts, ((v j).records, ((v j).began, (x.puts.wrote.room ∙ sym y.puts.wrote.room) j))),
      ),
    )

pub desks_determined : DesksDetermined
desks_determined =
    record {
      order_of = λ line. exactly;
      wanted = λ line. exactly;
      kept-slots = λ s. exactly;
      empty-desk = exactly;
      make_further = further_one;
    }
