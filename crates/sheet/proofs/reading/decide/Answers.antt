-- `sheet::reading::decide` meets its contract: a bad line, or else the checks.
-- Assumes nothing.
use mathlib.Core.Path.{ap, ◌∙◌}
use Prim.Native.Nat.{ℕ, ◌≤◌}
use native.Mathlib.Omega.{arith}
use lib.ListN.{length, replicate, length-replicate}
use Rattle.grid.specs.Squares.{squares, most_squares}
use Rattle.std.proofs.Common.{Option}
use Rattle.sheet.specs.Sheet.{grid_or}
use Rattle.sheet.specs.declared.lines.GridLine.{GridLine}
use Rattle.sheet.proofs.JudgeLaws.{taken_long, said_from, decided_bad, decided_good}
use Rattle.sheet.proofs.reading.decide.Goals as goal
use Rattle.sheet.proofs.reading.decide.Goals.{After-squares_of-squares}

few : (c : After-squares_of-squares) → c.squares_of-squares.result ≤ most_squares
few c = omega (arith, c.requires.1.few, c.squares_of-squares.ensures)

pub read_body-body-requires : goal.read_body-body-requires
read_body-body-requires c =
    let room : squares c.args.top.shape ≤ length (replicate {A = ℕ} most_squares 0) =
    omega (arith, c.requires.1.few, length-replicate {A = ℕ} most_squares 0) in record {
      top_value = c.requires;
      shape_in_bounds = (room, room, room, room, room);
    }

pub returns-then-body-ne0 : goal.returns-then-body-ne0
returns-then-body-ne0 c = decided_bad c.read_body-body.ensures c.if-body-ne0.true

pub squares_of-squares-requires : goal.squares_of-squares-requires
squares_of-squares-requires c = c.requires.1

pub slice_bounds-marks-end : goal.slice_bounds-marks-end
slice_bounds-marks-end c = omega (arith, few c)

pub slice_bounds-judge_body-end : goal.slice_bounds-judge_body-end
slice_bounds-judge_body-end c = taken_long _ (few (goal.at.slice_bounds-judge_body-end c).After-squares_of-squares) c.read_body-body.auto.marks

pub slice_bounds-beds-end : goal.slice_bounds-beds-end
slice_bounds-beds-end c = omega (arith, few (goal.at.slice_bounds-beds-end c).After-squares_of-squares)

pub slice_bounds-judge_body-end-2 : goal.slice_bounds-judge_body-end-2
slice_bounds-judge_body-end-2 c = taken_long _ (few (goal.at.slice_bounds-judge_body-end-2 c).After-squares_of-squares) c.read_body-body.auto.beds

pub slice_bounds-roughness-end : goal.slice_bounds-roughness-end
slice_bounds-roughness-end c = omega (arith, few (goal.at.slice_bounds-roughness-end c).After-squares_of-squares)

pub slice_bounds-judge_body-end-3 : goal.slice_bounds-judge_body-end-3
slice_bounds-judge_body-end-3 c = taken_long _ (few (goal.at.slice_bounds-judge_body-end-3 c).After-squares_of-squares) c.read_body-body.auto.roughness

pub slice_bounds-rates-end : goal.slice_bounds-rates-end
slice_bounds-rates-end c = omega (arith, few (goal.at.slice_bounds-rates-end c).After-squares_of-squares)

pub slice_bounds-judge_body-end-4 : goal.slice_bounds-judge_body-end-4
slice_bounds-judge_body-end-4 c = taken_long _ (few (goal.at.slice_bounds-judge_body-end-4 c).After-squares_of-squares) c.read_body-body.auto.rates

pub slice_bounds-depths-end : goal.slice_bounds-depths-end
slice_bounds-depths-end c = omega (arith, few (goal.at.slice_bounds-depths-end c).After-squares_of-squares)

pub slice_bounds-judge_body-end-5 : goal.slice_bounds-judge_body-end-5
slice_bounds-judge_body-end-5 c = taken_long _ (few (goal.at.slice_bounds-judge_body-end-5 c).After-squares_of-squares) c.read_body-body.auto.depths

pub judge_body-number-requires : goal.judge_body-number-requires
judge_body-number-requires c =
    let s = ap (λ (g : Option GridLine). (grid_or g).shape) c.requires.0 in record {
      shape_in_range = (c.requires.1, s, c.read_body-body.ensures.body_is c.if-body-ne0.false);
      depths_value = said_from _ most_squares (c.squares_of-squares.ensures ∙ ap squares s) (omega (arith, c.requires.1.few, ap squares s)) (c.read_body-body.ensures.rooms_are c.if-body-ne0.false);
    }

pub returns : goal.returns
returns c = decided_good c.read_body-body.ensures c.if-body-ne0.false c.judge_body-number.ensures
