-- Sets worked by hand, by computation.
-- Assumes nothing.
use mathlib.Core.Path.{refl}
use Rattle.reckon.specs.Tests.{pick, every, all_below, first_failing, refusal}
use Rattle.reckon.specs.Lists.{tabulate, filled, joined, placed, sum_below}
use Rattle.reckon.specs.Ranges.{side_fine, rate_fine, water_fine}
use Rattle.reckon.specs.Tables.{row_fine, table_fine}
use Rattle.trials.specs.Ring.{ring_fine}
use Rattle.grid.specs.Squares.{on_rim, shape_fine}
use Rattle.grid.specs.Marks.{closed, exit, mark_fine, marks_fine, inflow_square_fine, inflow_squares_fine}
use Rattle.rule.specs.Rules.{ground_fine, rules_fine}
use Rattle.ledger.specs.Runs.{run_values_fine, run_fine, answered}
use Rattle.ledger.specs.Record.{leaves_in, last_in, added_in, soaked_in, square_record, record_of, room_slots, newest_record}
use Rattle.ledger.specs.Flows.{gone, sent, came, off_side, off_square, off_grid, soaked_square, soaked_grid}
use Rattle.ledger.specs.Checks.{one_each, waters_fine, times_fine}
use Rattle.checks.specs.Refusals.{square_ground_fine, grounds_fine, end_fine, check_refusals}
use Rattle.checks.specs.Fresh.{fresh_run, fresh_refusals, fresh_number, fresh_lasts}
use Rattle.text.specs.Bytes.{bytes_of}
use Rattle.text.specs.Reading.{is_byte, word_at, is_digit, digits_of, value_from, well_formed, number_from, number_at, field_at, before, read_fields, line_ended, read_rest, read_line, padded, as_fields, line_length, next_line, line_from}
use Rattle.text.specs.Writing.{digits_in, decimal, field_text, fields_text, rest_text, line_text}
use Rattle.raster.specs.Amounts.{last_digits, amount_text, places_of, with_decimals, up_to_most, decimals_after, amount_at}
use Rattle.raster.specs.Raster.{head_line_text, head_text, entry_text, grid_text, spaces_of, past_spaces, line_end_after, head_line, only_zero, no_data_at, head_of, bare_entry, past_gap, parted, place_from, line_number, grid_bad}
use Rattle.sheet.specs.Lines.{as_grid, grid_line, as_run, run_line, closed_cell, as_open, open_cell, marked_cell, placed_cell, cell_line, letter_of}
use Rattle.sheet.specs.Sheet.{cells_read, rows_read, table_rows, bad_line, cells_filled, rooms_filled, rooms_fine, checks_in, heading_of, judged, sheet_of, rooms_after}
use Rattle.sheet.specs.Written.{grid_written, run_written, ground_at, cell_written, row_written, lines_written, sheet_written}
use Rattle.programs.specs.Reading.{sheet_within}
use Rattle.survey.specs.Sets.{mark_line, note_text, set_of, note_mark, marks_read, note_bad, first_of, set_bad, same_closed, agrees, all_agree, column, set_says, set_number, moved_out, to_survey, moved_back, all_short, set_answer, from_survey}
use Rattle.survey.specs.Worked.{PartsWorked, SetsWorked, RefusalsWorked}

pub parts_worked : PartsWorked
unfolding pick joined closed digits_in decimal field_text fields_text rest_text line_text letter_of last_digits amount_text head_line_text head_text entry_text grid_text grid_written run_written row_written lines_written tabulate mark_line note_text set_of bytes_of
parts_worked = record { note_is = refl; bed_is = refl; depth_is = refl; roughness_is = refl; rate_is = refl }

pub sets_worked : SetsWorked
unfolding pick every all_below first_failing refusal tabulate filled joined placed sum_below side_fine rate_fine water_fine row_fine table_fine ring_fine on_rim shape_fine closed exit mark_fine marks_fine inflow_square_fine inflow_squares_fine ground_fine rules_fine run_values_fine run_fine answered leaves_in last_in added_in soaked_in square_record record_of room_slots newest_record gone sent came off_side off_square off_grid soaked_square soaked_grid one_each waters_fine times_fine square_ground_fine grounds_fine end_fine check_refusals fresh_run fresh_refusals fresh_number fresh_lasts bytes_of is_byte word_at is_digit digits_of value_from well_formed number_from number_at field_at before read_fields line_ended read_rest read_line padded as_fields line_length next_line line_from digits_in decimal field_text fields_text rest_text line_text last_digits amount_text places_of with_decimals up_to_most decimals_after amount_at head_line_text head_text entry_text grid_text spaces_of past_spaces line_end_after head_line only_zero no_data_at head_of bare_entry past_gap parted place_from line_number grid_bad as_grid grid_line as_run run_line closed_cell as_open open_cell marked_cell placed_cell cell_line letter_of cells_read rows_read table_rows bad_line cells_filled rooms_filled rooms_fine checks_in heading_of judged sheet_of rooms_after grid_written run_written ground_at cell_written row_written lines_written sheet_written sheet_within mark_line note_text set_of note_mark marks_read note_bad first_of set_bad same_closed agrees all_agree column set_says set_number moved_out to_survey moved_back all_short set_answer from_survey
sets_worked = record { document_out = refl; document_back = refl; from_elsewhere = refl }

pub refusals_worked : RefusalsWorked
unfolding pick every all_below first_failing refusal tabulate filled joined placed sum_below side_fine rate_fine water_fine row_fine table_fine ring_fine on_rim shape_fine closed exit mark_fine marks_fine inflow_square_fine inflow_squares_fine ground_fine rules_fine run_values_fine run_fine answered leaves_in last_in added_in soaked_in square_record record_of room_slots newest_record gone sent came off_side off_square off_grid soaked_square soaked_grid one_each waters_fine times_fine square_ground_fine grounds_fine end_fine check_refusals fresh_run fresh_refusals fresh_number fresh_lasts bytes_of is_byte word_at is_digit digits_of value_from well_formed number_from number_at field_at before read_fields line_ended read_rest read_line padded as_fields line_length next_line line_from digits_in decimal field_text fields_text rest_text line_text last_digits amount_text places_of with_decimals up_to_most decimals_after amount_at head_line_text head_text entry_text grid_text spaces_of past_spaces line_end_after head_line only_zero no_data_at head_of bare_entry past_gap parted place_from line_number grid_bad as_grid grid_line as_run run_line closed_cell as_open open_cell marked_cell placed_cell cell_line letter_of cells_read rows_read table_rows bad_line cells_filled rooms_filled rooms_fine checks_in heading_of judged sheet_of rooms_after grid_written run_written ground_at cell_written row_written lines_written sheet_written sheet_within mark_line note_text set_of note_mark marks_read note_bad first_of set_bad same_closed agrees all_agree column set_says set_number moved_out to_survey moved_back all_short set_answer from_survey
refusals_worked =
    record {
      bed_first = refl;
      two_rows = refl;
      text_first = refl;
      closed_differ = refl;
      bed_high = refl;
      rough_low = refl;
      too_deep = refl;
    }
