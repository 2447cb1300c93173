-- `sheet::reading::read_body` meets its contract: reading stops at the first bad line.
-- Assumes nothing.
use mathlib.Core.Path.{ap, ◌∙◌}
use Prim.Native.Nat.{ℕ, ◌+◌, ◌≤◌}
use native.Mathlib.Omega.{arith}
use Rattle.grid.specs.Squares.{squares}
use Rattle.sheet.specs.Sheet.{first_cell}
use Rattle.sheet.proofs.ReadLaws.{body_run, body_cells, body_rest, body_good, body_lines, plain_rain, plain_inflow}
use Rattle.sheet.proofs.reading.read_body.Goals as goal
use Rattle.sheet.proofs.reading.read_body.Goals.{After-count_rows-inflow}

enough : (c : After-count_rows-inflow) → squares c.args.top.shape ≤ c.fill_cells-cells.result.count
enough c = omega (arith, c.squares_of-squares.ensures, c.if-cells-squares.false)

room :
    (c : After-count_rows-inflow) →
    squares c.args.top.shape + c.count_rows-rain.result.count + c.count_rows-inflow.result.count + 2 ≤
    c.count_rows-inflow.result.next
room c =
    body_lines c.args.text.now c.requires.top_value.0 c.in-Some.ensures c.fill_cells-cells.ensures (enough c) c.count_rows-rain.ensures c.count_rows-inflow.ensures

pub returns-in_default : goal.returns-in_default
returns-in_default c = body_run c.args.text.now c.requires.top_value.0 c.in_default.ensures c.bad_body.ensures

pub overflow_add-cells : goal.overflow_add-cells
overflow_add-cells c = omega (arith, c.if-cells-squares.true, c.squares_of-squares.ensures, c.requires.top_value.1.few)

pub returns-then-cells-squares : goal.returns-then-cells-squares
returns-then-cells-squares c =
    body_cells c.args.text.now c.requires.top_value.0 c.in-Some.ensures c.fill_cells-cells.ensures
    (omega (arith, c.squares_of-squares.ensures, c.if-cells-squares.true)) c.bad_body-then-cells-squares.ensures

pub count_rows-rain-requires : goal.count_rows-rain-requires
count_rows-rain-requires c = (omega arith, plain_rain)

pub count_rows-inflow-requires : goal.count_rows-inflow-requires
count_rows-inflow-requires c = (omega arith, plain_inflow)

pub overflow_add-squares : goal.overflow_add-squares
overflow_add-squares c =
    let g = c.well_formed in
    omega (arith, c.squares_of-squares.ensures, c.if-inflow-text.true, room (goal.at.overflow_add-squares c).After-count_rows-inflow)

pub overflow_add-squares-then-inflow-text : goal.overflow_add-squares-then-inflow-text
overflow_add-squares-then-inflow-text c =
    let g = c.well_formed in
    omega (arith, c.squares_of-squares.ensures, c.if-inflow-text.true, room (goal.at.overflow_add-squares-then-inflow-text c).After-count_rows-inflow)

pub overflow_add-squares-then-inflow-text-2 : goal.overflow_add-squares-then-inflow-text-2
overflow_add-squares-then-inflow-text-2 c =
    let g = c.well_formed in
    omega (arith, c.squares_of-squares.ensures, c.if-inflow-text.true, room (goal.at.overflow_add-squares-then-inflow-text-2 c).After-count_rows-inflow)

pub shape_of-marks-then-inflow-text : goal.shape_of-marks-then-inflow-text
shape_of-marks-then-inflow-text c = c.fill_cells-cells.auto.marks

pub shape_of-beds-then-inflow-text : goal.shape_of-beds-then-inflow-text
shape_of-beds-then-inflow-text c = c.fill_cells-cells.auto.beds

pub shape_of-roughness-then-inflow-text : goal.shape_of-roughness-then-inflow-text
shape_of-roughness-then-inflow-text c = c.fill_cells-cells.auto.roughness

pub shape_of-rates-then-inflow-text : goal.shape_of-rates-then-inflow-text
shape_of-rates-then-inflow-text c = c.fill_cells-cells.auto.rates

pub shape_of-depths-then-inflow-text : goal.shape_of-depths-then-inflow-text
shape_of-depths-then-inflow-text c = c.fill_cells-cells.auto.depths

pub returns-then-inflow-text : goal.returns-then-inflow-text
returns-then-inflow-text c =
    body_rest c.args.text.now c.requires.top_value.0 c.in-Some.ensures c.fill_cells-cells.ensures (enough (goal.at.returns-then-inflow-text c).After-count_rows-inflow) c.count_rows-rain.ensures
    c.count_rows-inflow.ensures c.if-inflow-text.true
    (c.bad_body-then-inflow-text.ensures ∙ ap (λ (k : ℕ). k + c.count_rows-rain.result.count + c.count_rows-inflow.result.count + first_cell) c.squares_of-squares.ensures)

pub shape_of-marks : goal.shape_of-marks
shape_of-marks c = c.fill_cells-cells.auto.marks

pub shape_of-beds : goal.shape_of-beds
shape_of-beds c = c.fill_cells-cells.auto.beds

pub shape_of-roughness : goal.shape_of-roughness
shape_of-roughness c = c.fill_cells-cells.auto.roughness

pub shape_of-rates : goal.shape_of-rates
shape_of-rates c = c.fill_cells-cells.auto.rates

pub shape_of-depths : goal.shape_of-depths
shape_of-depths c = c.fill_cells-cells.auto.depths

pub returns : goal.returns
returns c =
    body_good c.args.text.now c.requires.top_value.0 c.in-Some.ensures c.fill_cells-cells.ensures (enough (goal.at.returns c).After-count_rows-inflow) c.count_rows-rain.ensures
    c.count_rows-inflow.ensures (omega arith)
