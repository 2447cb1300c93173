-- For the demands: the contract of the exported run with boards leaves one outcome.
-- Assumes nothing.
use mathlib.Core.Path.{sym, ◌∙◌}
use mathlib.Core.List.{List}
use Prim.Native.Nat.{ℕ}
use Rattle.reckon.specs.Outcomes.{One}
use Rattle.ledger.specs.Runs.{Plan, World}
use Rattle.checks.specs.Given.{Given}
use Rattle.display.specs.declared.boards.Board.{Board}
use Rattle.display_exports.specs.Boards.{ExportsBoards}

-- number, depths, last leaving, records, run, steps and boards
pub exports_boards_one :
    {p : Plan} {g : Given} {end : ℕ} {w : World} {n : ℕ} {boards : List Board} {rules old old_steps : List ℕ} →
    One {Out = ℕ × (List ℕ × (List ℕ × (List ℕ × (List ℕ × (List ℕ × List Board)))))}
    (λ o.
    ExportsBoards p g end w n boards rules old old_steps o.0 o.1.0 o.1.1.0 o.1.1.1.0 o.1.1.1.1.0 o.1.1.1.1.1.0
    o.1.1.1.1.1.1)
exports_boards_one a b x y = λ j. (
  (x.number_is ∙ sym y.number_is) j,
  (
    (x.depths_are ∙ sym y.depths_are) j,
    (
      (x.lasts_are ∙ sym y.lasts_are) j,
      (
        (x.records_are ∙ sym y.records_are) j,
        ((x.run_is ∙ sym y.run_is) j, ((x.steps_are ∙ sym y.steps_are) j, (x.boards_are ∙ sym y.boards_are) j)),
      ),
    ),
  ),
)
