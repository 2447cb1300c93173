-- The exported run with boards by value.
-- Assumes nothing.
use Rattle.std.specs.Prelude.{◌≡◌, List, ℕ, drop}
use Rattle.ledger.specs.Runs.{Plan, World}
use Rattle.checks.specs.Given.{Given}
use Rattle.display.specs.Boards.{listed}
use Rattle.display.specs.declared.boards.Boards.{Boards}
use Rattle.display_exports.specs.Boards.{ExportsBoards}
use Rattle.display_exports.specs.declared.boards.Boarded.{Boarded}

-- what of the list is not counted stays
pub record TellsHeld
    (p : Plan) (g : Given) (end : ℕ) (w : World) (before : Boards) (rules old old_steps : List ℕ)
    (a : Boarded) (depths lasts records run steps : List ℕ) : Type 0 where
  pub tells :
      ExportsBoards p g end w before.count (listed before) rules old old_steps a.number depths lasts records run steps
      (listed a.boards)
  pub count_is : a.boards.count ≡ before.count
  pub rest_stays : drop before.count a.boards.list ≡ drop before.count before.list
