-- `survey::notes::read_note` meets its contract: reading stops at the first bad line.
-- Assumes nothing.
use native.Mathlib.Nat.{mul-le-mul}
use native.Mathlib.Omega.{arith}
use Rattle.sheet.proofs.ReadLaws.{plain_rain, plain_inflow}
use Rattle.survey.proofs.NoteLaws.{note_top, top_small, note_run, run_inside, note_cells, note_lines, note_rest, note_good}
use Rattle.survey.proofs.notes.read_note.Goals as goal

pub returns-in_default : goal.returns-in_default
returns-in_default c = note_top _ c.in_default.ensures c.bad_note.ensures

pub returns-in_default-run_line : goal.returns-in_default-run_line
returns-in_default-run_line c = note_run _ c.in-Some.ensures c.in_default-run_line.ensures c.bad_note-in_default-run_line.ensures

pub overflow_mul-squares : goal.overflow_mul-squares
overflow_mul-squares c =
    let small = top_small _ c.in-Some.ensures in
    omega (arith, mul-le-mul small.0 small.1)

pub count_marks-cells-requires : goal.count_marks-cells-requires
count_marks-cells-requires c =
    let small = top_small _ c.in-Some.ensures in
    (run_inside _ c.in-Some.ensures c.in-Some-run_line.ensures, small.0, small.1)

pub overflow_add-cells : goal.overflow_add-cells
overflow_add-cells c =
    let small = top_small _ c.in-Some.ensures in
    omega (arith, c.if-cells-squares.true, mul-le-mul small.0 small.1)

pub returns-then-cells-squares : goal.returns-then-cells-squares
returns-then-cells-squares c =
    note_cells _ c.in-Some.ensures c.in-Some-run_line.ensures c.count_marks-cells.ensures c.if-cells-squares.true
    c.bad_note-then-cells-squares.ensures

pub count_rows-rain-requires : goal.count_rows-rain-requires
count_rows-rain-requires c = (omega arith, plain_rain)

pub count_rows-inflow-requires : goal.count_rows-inflow-requires
count_rows-inflow-requires c = (omega arith, plain_inflow)

pub overflow_add-squares : goal.overflow_add-squares
overflow_add-squares c =
    let g = c.well_formed in
    omega (
      arith,
      c.if-inflow-text.true,
      note_lines _ c.in-Some.ensures c.in-Some-run_line.ensures c.count_marks-cells.ensures
          c.if-cells-squares.false c.count_rows-rain.ensures c.count_rows-inflow.ensures,
    )

pub overflow_add-squares-then-inflow-text : goal.overflow_add-squares-then-inflow-text
overflow_add-squares-then-inflow-text c =
    let g = c.well_formed in
    omega (
      arith,
      c.if-inflow-text.true,
      note_lines _ c.in-Some.ensures c.in-Some-run_line.ensures c.count_marks-cells.ensures
          c.if-cells-squares.false c.count_rows-rain.ensures c.count_rows-inflow.ensures,
    )

pub overflow_add-squares-then-inflow-text-2 : goal.overflow_add-squares-then-inflow-text-2
overflow_add-squares-then-inflow-text-2 c =
    let g = c.well_formed in
    omega (
      arith,
      c.if-inflow-text.true,
      note_lines _ c.in-Some.ensures c.in-Some-run_line.ensures c.count_marks-cells.ensures
          c.if-cells-squares.false c.count_rows-rain.ensures c.count_rows-inflow.ensures,
    )

pub returns-then-inflow-text : goal.returns-then-inflow-text
returns-then-inflow-text c =
    note_rest _ c.in-Some.ensures c.in-Some-run_line.ensures c.count_marks-cells.ensures
    c.if-cells-squares.false c.count_rows-rain.ensures c.count_rows-inflow.ensures c.if-inflow-text.true c.bad_note-then-inflow-text.ensures

pub returns : goal.returns
returns c =
    note_good _ c.in-Some.ensures c.in-Some-run_line.ensures c.count_marks-cells.ensures
    c.if-cells-squares.false c.count_rows-rain.ensures c.count_rows-inflow.ensures c.if-inflow-text.false
