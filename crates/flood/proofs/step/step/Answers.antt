-- `flood::step::step` meets its contract: rows 1 to 6 refuse, or the step is made in parts of rooms that are of their sizes.
-- Assumes nothing.
use mathlib.Core.Path.{refl, sym}
use Prim.Native.Nat.{◌≤◌}
use native.Mathlib.Omega.{arith}
use Rattle.grid.specs.Squares.{most_along, most_squares}
use Rattle.ledger.specs.Runs.{Plan, World, plan, world}
use Rattle.checks.specs.Given.{Given, ground, given}
use Rattle.flood.specs.Step.{Passes}
use Rattle.flood.proofs.StepLaws.{passed_fine, part_long, parts_lent, step_checked, passes_checks}
use Rattle.flood.proofs.step.step.Goals as goal
use Rattle.flood.proofs.step.step.Goals.{After-squares_of-squares, Else-number-ne0, Start}

-- ---- what is known there

abbrev p : Start → Plan
p s = plan s.args.shape s.args.marks.now

abbrev g : Start → Given
g s = given (ground s.args.rules s.args.beds.now s.args.roughness.now s.args.rates.now) s.args.rain.now s.args.inflow.now

abbrev w : Start → World
w s = world s.args.depths.now s.args.lasts.now s.args.records.now s.args.run

passed : (c : Else-number-ne0) → Passes (p (goal.at.Else-number-ne0 c).Start) (g (goal.at.Else-number-ne0 c).Start) (w (goal.at.Else-number-ne0 c).Start)
passed c =
    passes_checks (p (goal.at.Else-number-ne0 c).Start) (g (goal.at.Else-number-ne0 c).Start) (w (goal.at.Else-number-ne0 c).Start) (c.check_step-number.ensures c.args.records.now refl) c.if-number-ne0.false

squares_fit : (c : After-squares_of-squares) → c.squares_of-squares.result ≤ most_squares
squares_fit c = omega (arith, c.squares_of-squares.ensures, (passed_fine (passed (goal.at.After-squares_of-squares c).Else-number-ne0)).few)

rows_fit : (c : After-squares_of-squares) → c.args.shape.rows ≤ most_along
rows_fit c = (passed_fine (passed (goal.at.After-squares_of-squares c).Else-number-ne0)).rows_high

-- ---- the answers

pub returns-then-number-ne0 : goal.returns-then-number-ne0
returns-then-number-ne0 c = step_checked (p (goal.at.returns-then-number-ne0 c).Start) (g (goal.at.returns-then-number-ne0 c).Start) (w (goal.at.returns-then-number-ne0 c).Start) (c.check_step-number.ensures c.args.records.now refl) c.if-number-ne0.true

pub squares_of-squares-requires : goal.squares_of-squares-requires
squares_of-squares-requires c = passed_fine (passed c)

pub slice_bounds-left-end : goal.slice_bounds-left-end
slice_bounds-left-end c = squares_fit (goal.at.slice_bounds-left-end c).After-squares_of-squares

pub slice_bounds-step_checked-end : goal.slice_bounds-step_checked-end
slice_bounds-step_checked-end c = sym (part_long most_squares (squares_fit (goal.at.slice_bounds-step_checked-end c).After-squares_of-squares))

pub slice_bounds-worked-end : goal.slice_bounds-worked-end
slice_bounds-worked-end c = rows_fit (goal.at.slice_bounds-worked-end c).After-squares_of-squares

pub slice_bounds-step_checked-end-2 : goal.slice_bounds-step_checked-end-2
slice_bounds-step_checked-end-2 c = sym (part_long most_along (rows_fit (goal.at.slice_bounds-step_checked-end-2 c).After-squares_of-squares))

pub slice_bounds-senders-end : goal.slice_bounds-senders-end
slice_bounds-senders-end c = rows_fit (goal.at.slice_bounds-senders-end c).After-squares_of-squares

pub slice_bounds-step_checked-end-3 : goal.slice_bounds-step_checked-end-3
slice_bounds-step_checked-end-3 c = sym (part_long most_along (rows_fit (goal.at.slice_bounds-step_checked-end-3 c).After-squares_of-squares))

pub slice_bounds-room-end : goal.slice_bounds-room-end
slice_bounds-room-end c = squares_fit (goal.at.slice_bounds-room-end c).After-squares_of-squares

pub slice_bounds-step_checked-end-4 : goal.slice_bounds-step_checked-end-4
slice_bounds-step_checked-end-4 c = sym (part_long most_squares (squares_fit (goal.at.slice_bounds-step_checked-end-4 c).After-squares_of-squares))

pub step_checked-requires : goal.step_checked-requires
step_checked-requires c =
    let fits = passed (goal.at.step_checked-requires c).Else-number-ne0 in record {
      rooms_lent = (parts_lent c.squares_of-squares.ensures (passed_fine fits), c.rows_apart.ensures);
      passes = λ y. fits;
    }
