-- `survey::texts::put_note` meets its contract: its lines, one after the other.
-- Assumes nothing.
use mathlib.Core.Path.{ap}
use mathlib.Core.List.{List}
use Prim.Native.Nat.{ℕ, ◌≤◌}
use native.Mathlib.Omega.{arith}
use lib.ListN.{length, get_or}
use Rattle.sheet.specs.Sheet.{Rooms}
use Rattle.sheet.specs.Written.{lines_written}
use Rattle.answer.proofs.PrintLaws.{written_as}
use Rattle.survey.specs.Sets.{mark_line}
use Rattle.survey.specs.Inner.Writing.{only_noted}
use Rattle.survey.proofs.PutLaws.{grid_fits, run_fits, cells_fit, rain_fits, inflow_fits, lines_put, note_lines}
use Rattle.survey.proofs.texts.put_note.Goals as goal
use Rattle.survey.proofs.texts.put_note.Goals.{Start}

abbrev held : Start → Rooms
held s =
    only_noted s.args.marks.now s.args.rain.now s.args.inflow.now

abbrev cell : Start → ℕ → List ℕ
cell s = λ i. mark_line s.args.heading.shape.columns i (get_or s.args.marks.now i 0)

fits : (s : Start) → length (lines_written s.args.heading (held s) (cell s)) ≤ length s.args.out.now
fits s = omega (arith, s.requires.rain_len.2, ap length (note_lines s.args.heading (held s)))

pub put_grid_line-a-requires : goal.put_grid_line-a-requires
put_grid_line-a-requires c = grid_fits c.args.heading (held (goal.at.put_grid_line-a-requires c).Start) (cell (goal.at.put_grid_line-a-requires c).Start) c.args.out.now (fits (goal.at.put_grid_line-a-requires c).Start)

pub put_run_line-b-requires : goal.put_run_line-b-requires
put_run_line-b-requires c = run_fits c.args.heading (held (goal.at.put_run_line-b-requires c).Start) (cell (goal.at.put_run_line-b-requires c).Start) c.args.out.now (fits (goal.at.put_run_line-b-requires c).Start) c.put_grid_line-a.ensures

pub put_marks-c-requires : goal.put_marks-c-requires
put_marks-c-requires c = record {
  shape_in_range = c.requires.shape_in_range;
  i_in_bounds = cells_fit c.args.heading (held (goal.at.put_marks-c-requires c).Start) (cell (goal.at.put_marks-c-requires c).Start) c.args.out.now (fits (goal.at.put_marks-c-requires c).Start) c.put_grid_line-a.ensures
      c.put_run_line-b.ensures;
}

pub put_table-d-requires : goal.put_table-d-requires
put_table-d-requires c = record {
  rows_in_bounds = omega (arith, c.requires.rain_len.0);
  table_in_bounds = rain_fits c.args.heading (held (goal.at.put_table-d-requires c).Start) (cell (goal.at.put_table-d-requires c).Start) c.args.out.now (fits (goal.at.put_table-d-requires c).Start) c.put_grid_line-a.ensures
      c.put_run_line-b.ensures c.put_marks-c.ensures;
}

pub put_table-requires : goal.put_table-requires
put_table-requires c = record {
  rows_in_bounds = omega (arith, c.requires.rain_len.1);
  table_in_bounds = inflow_fits c.args.heading (held (goal.at.put_table-requires c).Start) (cell (goal.at.put_table-requires c).Start) c.args.out.now (fits (goal.at.put_table-requires c).Start)
      c.put_grid_line-a.ensures c.put_run_line-b.ensures c.put_marks-c.ensures
      c.put_table-d.ensures;
}

pub returns : goal.returns
returns c =
    written_as (note_lines c.args.heading (held (goal.at.returns c).Start))
    (lines_put c.args.heading (held (goal.at.returns c).Start) (cell (goal.at.returns c).Start) c.args.out.now (fits (goal.at.returns c).Start)
    c.put_grid_line-a.ensures c.put_run_line-b.ensures c.put_marks-c.ensures
    c.put_table-d.ensures c.put_table.ensures)
