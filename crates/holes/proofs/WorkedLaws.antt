-- Rounds and texts worked by hand: by computation.
-- Assumes nothing.
use mathlib.Core.Path.{refl}
use Rattle.reckon.specs.Tests.{pick, every, all_below, first_failing, refusal}
use Rattle.reckon.specs.Lists.{tabulate, filled, joined, placed, sum_below}
use Rattle.reckon.specs.Ranges.{water_fine, side_fine, rate_fine}
use Rattle.reckon.specs.Tables.{row_fine, table_fine}
use Rattle.trials.specs.Ring.{ring_fine}
use Rattle.grid.specs.Squares.{beside, on_rim, shape_fine}
use Rattle.grid.specs.Marks.{closed, exit, mark_fine, marks_fine, inflow_square_fine, inflow_squares_fine}
use Rattle.rule.specs.Rules.{ground_fine, rules_fine}
use Rattle.ledger.specs.Runs.{run_values_fine}
use Rattle.ledger.specs.Record.{room_slots}
use Rattle.ledger.specs.Checks.{one_each, waters_fine}
use Rattle.checks.specs.Refusals.{square_ground_fine, grounds_fine, end_fine, check_refusals}
use Rattle.checks.specs.Fresh.{fresh_run}
use Rattle.text.specs.Bytes.{bytes_of}
use Rattle.text.specs.Reading.{is_byte, word_at, is_digit, digits_of, value_from, well_formed, number_from, number_at, field_at, before, read_fields, line_ended, read_rest, read_line, padded, as_fields, line_length, next_line, line_from}
use Rattle.text.specs.Writing.{digits_in, decimal, field_text, fields_text, rest_text, line_text}
use Rattle.sheet.specs.Lines.{as_grid, grid_line, as_run, run_line, closed_cell, as_open, open_cell, marked_cell, placed_cell, cell_line, letter_of}
use Rattle.sheet.specs.Sheet.{cells_read, rows_read, table_rows, bad_line, cells_filled, rooms_fine, checks_in, heading_of, judged, sheet_of}
use Rattle.answer.specs.Printed.{refused_text}
use Rattle.holes.specs.Rounds.{bed_beside, lowest_beside, round_of, after_rounds, filled_beds, round_filling}
use Rattle.holes.specs.Holes.{hole_at, line_with, looked_in, with_beds}
use Rattle.holes.specs.Repaired.{bed_text, given_text, hole_text, seen_in, repaired_with, repaired_text, repair_text}
use Rattle.holes.specs.Worked.{RoundsWorked, RepairWorked}

pub rounds_worked : RoundsWorked
unfolding pick all_below first_failing tabulate beside closed bed_beside lowest_beside round_of after_rounds filled_beds round_filling
rounds_worked = record { one = refl; all = refl; two_in_line = refl; all_in_line = refl; third_round = refl; known_at-start = refl }

pub repair_worked : RepairWorked
unfolding pick every all_below first_failing refusal tabulate filled joined placed sum_below water_fine side_fine rate_fine row_fine table_fine ring_fine beside on_rim shape_fine closed exit mark_fine marks_fine inflow_square_fine inflow_squares_fine ground_fine rules_fine run_values_fine room_slots one_each waters_fine square_ground_fine grounds_fine end_fine check_refusals fresh_run bytes_of is_byte word_at is_digit digits_of value_from well_formed number_from number_at field_at before read_fields line_ended read_rest read_line padded as_fields line_length next_line line_from digits_in decimal field_text fields_text rest_text line_text as_grid grid_line as_run run_line closed_cell as_open open_cell marked_cell placed_cell cell_line letter_of cells_read rows_read table_rows bad_line cells_filled rooms_fine checks_in heading_of judged sheet_of refused_text bed_beside lowest_beside round_of after_rounds filled_beds round_filling hole_at line_with looked_in with_beds bed_text given_text hole_text seen_in repaired_with repaired_text repair_text
repair_worked = record { repaired = refl; unreached = refl; not_a_bed = refl; listed = refl }
