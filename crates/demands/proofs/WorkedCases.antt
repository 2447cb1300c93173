-- The worked cases marked P hold: each is computed, from the sheet's text where there is one.
-- Assumes nothing.
use mathlib.Core.Path.{◌≡◌, refl, sym, subst}
use mathlib.Core.List.{[], ◌∷◌}
use lib.Ieee as Ieee
use Rattle.reckon.specs.Tests.{pick, every, all_below, first_failing, refusal}
use Rattle.reckon.specs.Lists.{tabulate, filled, joined, placed, sum_below}
use Rattle.reckon.specs.Ranges.{water_fine, side_fine, rate_fine}
use Rattle.reckon.specs.Roots.{root_from, root_of}
use Rattle.reckon.specs.Soaking.{soak_by, soak_due}
use Rattle.reckon.specs.Tables.{row_gives, table_gives, rain_by, on_square, inflow_by, row_fine, table_fine}
use Rattle.trials.specs.Ring.{slot_after, slot_before, ring_fine}
use Rattle.trials.specs.Room.{record_in}
use Rattle.grid.specs.Squares.{beside, opposite, on_rim, shape_fine}
use Rattle.grid.specs.Marks.{closed, exit, mark_fine, marks_fine, inflow_square_fine, inflow_squares_fine}
use Rattle.rule.specs.Drops.{drop_off}
use Rattle.rule.specs.Length.{candidate, counts, side_candidates, candidates_of, least_from, held_between, fresh_length, is_update, length_at, duration_for}
use Rattle.rule.specs.Rules.{ground_fine, rules_fine}
use Rattle.rule.specs.declared.rules.Rules.{Rules}
use Rattle.rule.specs.Weighing.{lesser_positive, least_drop, greatest_drop, drop_sum, height_of, slope_of, critical_speed, manning_speed, speed_of, most_through, total_of, through_sides, nothing_unless, weighted_sides, directed_amount, directed_amounts, scaled_to, directed_sides, unlimited_total, unlimited_sides, weighed}
use Rattle.ledger.specs.Runs.{plan, run_fine, run_values_fine}
use Rattle.ledger.specs.Flows.{gone, sent, came, off_side, off_square, off_grid, soaked_square, soaked_grid}
use Rattle.ledger.specs.Record.{leaves_in, last_in, added_in, soaked_in, square_record, record_of, room_slots, newest_record}
use Rattle.ledger.specs.After.{remains, new_depth, depths_fit, new_outflow, new_soaked, late_refusals, step_record, world_after}
use Rattle.ledger.specs.Checks.{one_each, waters_fine, times_fine}
use Rattle.ledger.specs.TakeBack.{held_and_gone, came_and_added, depth_before, square_restorable, restorable, world_before, back_refusals, back_number, taken_back, early_refusals}
use Rattle.adding.specs.Added.{added_for}
use Rattle.moves.specs.Drops.{side_drop, drops_of}
use Rattle.moves.specs.Moves.{square_candidates, candidates, leaves_for, soaked_for, step_length, step_duration}
use Rattle.checks.specs.Refusals.{square_ground_fine, grounds_fine, end_fine, check_refusals}
use Rattle.flood.specs.Step.{step_number, stepped}
use Rattle.checks.specs.Fresh.{fresh_run}
use Rattle.flood.specs.Run.{go_on, run_from, run_to}
use Rattle.text.specs.Reading.{is_byte, word_at, is_digit, digits_of, value_from, well_formed, number_from, number_at, field_at, before, read_fields, line_ended, read_rest, read_line, padded, as_fields, line_length, next_line, line_from}
use Rattle.text.specs.Writing.{digits_in, decimal, field_text, fields_text, rest_text, line_text}
use Rattle.sheet.specs.Lines.{as_grid, grid_line, as_run, run_line, closed_cell, as_open, open_cell, marked_cell, placed_cell, cell_line}
use Rattle.sheet.specs.Sheet.{rooms, cells_rooms, shape_of, line_two, rain_table, inflow_table, said, cells_read, rows_read, table_rows, bad_line, cells_filled, rooms_filled, rooms_fine, checks_in, heading_of, judged, sheet_of}
use Rattle.answer.specs.Printed.{refused_text, cell_text, cells_text, totals_text, made_text}
use Rattle.programs.specs.Program.{ended_text, run_text, meadow_text}
use Rattle.programs.specs.Program.{sheet_text}
use Rattle.sight.specs.Refusals.{depths_fine, shared_refusals}
use Rattle.sight.specs.Speeds.{quotient_of}
use Rattle.sight.specs.Speeds as Speeds
use Rattle.sight.specs.Arrows.{out_through, near_depth, through_side, all_still, arrow_by, sighted, seen_by, asked_fine, arrow_early_refusals, arrow_refusals, arrow_number, seen_at}
use Rattle.demands.specs.Worked.{document_sheet, document_output, exit_sheet, level_sheet, soak_sheet, Meadow, meadow_in, SheetCases, ExitCases, LevelCases, NumberCases, EditionCases, SoakCases, whole_sheet, printed_world, column_sheet, TextCases, DitchCases, ColumnCases, LentCases, ProvedCases}
use Rattle.text.specs.Bytes.{bytes_of}
use Rattle.exports.specs.Sights.{sight_number, speeds_in}
use Rattle.exports.specs.Bounds.{bounds_told, figures_in}

-- ---- what the texts say

abbrev rules : Rules
rules = record { square_side = 1; tolerance = 100; shortest = 1_000; longest = 1_000; update = 1_000; edge = 10_000; edition = 1 }

-- of two squares, or of one
abbrev document_meadow : Meadow
document_meadow =
    record {
      shape = record { rows = 1; columns = 2 };
      rules = rules;
      held = rooms (1 ∷ 1 ∷ []) (0 ∷ 0 ∷ []) (100 ∷ 100 ∷ []) (0 ∷ 0 ∷ []) (1_000 ∷ 0 ∷ []) [] [];
    }

abbrev exit_meadow : Meadow
exit_meadow =
    record {
      shape = record { rows = 1; columns = 1 };
      rules = rules;
      held = rooms (2 ∷ []) (0 ∷ []) (100 ∷ []) (0 ∷ []) (10_000 ∷ []) [] [];
    }

abbrev level_meadow : Meadow
level_meadow =
    record {
      shape = record { rows = 1; columns = 2 };
      rules = rules;
      held = rooms (1 ∷ 1 ∷ []) (0 ∷ 0 ∷ []) (100 ∷ 100 ∷ []) (0 ∷ 0 ∷ []) (500 ∷ 500 ∷ []) [] [];
    }

abbrev soak_meadow : Meadow
soak_meadow =
    record {
      shape = record { rows = 1; columns = 2 };
      rules = rules;
      held = rooms (1 ∷ 1 ∷ []) (0 ∷ 0 ∷ []) (100 ∷ 100 ∷ []) (1_800 ∷ 1_000_000 ∷ []) (1_000 ∷ 0 ∷ []) [] [];
    }

abbrev column_meadow : Meadow
column_meadow =
    record {
      shape = record { rows = 2; columns = 1 };
      rules = rules;
      held = rooms (1 ∷ 1 ∷ []) (0 ∷ 0 ∷ []) (100 ∷ 100 ∷ []) (0 ∷ 0 ∷ []) (1_000 ∷ 0 ∷ []) [] [];
    }

-- the texts are read apart from the steps on them, so that no step reads a text again
record Texts : Type 0 where
  document : meadow_in document_sheet ≡ document_meadow
  exit : meadow_in exit_sheet ≡ exit_meadow
  level : meadow_in level_sheet ≡ level_meadow
  soak : meadow_in soak_sheet ≡ soak_meadow
  column : meadow_in column_sheet ≡ column_meadow

texts : Texts
unfolding pick every all_below first_failing refusal tabulate filled joined placed is_byte word_at is_digit digits_of value_from well_formed number_from number_at field_at before read_fields line_ended read_rest read_line padded as_fields line_length next_line line_from as_grid grid_line as_run run_line closed_cell as_open open_cell marked_cell placed_cell cell_line cells_read rows_read table_rows cells_filled bytes_of
texts = record { document = refl; exit = refl; level = refl; soak = refl; column = refl }

-- ---- the steps

sheet_cases : SheetCases document_meadow
unfolding pick every all_below refusal tabulate filled joined placed sum_below water_fine root_from root_of row_gives table_gives rain_by on_square inflow_by row_fine table_fine slot_after slot_before ring_fine record_in beside opposite on_rim shape_fine closed exit mark_fine marks_fine inflow_square_fine inflow_squares_fine drop_off candidate counts side_candidates candidates_of least_from held_between fresh_length is_update length_at duration_for side_fine rate_fine ground_fine rules_fine lesser_positive least_drop greatest_drop drop_sum height_of slope_of critical_speed manning_speed speed_of most_through total_of through_sides nothing_unless weighted_sides weighed run_values_fine run_fine gone sent came off_side off_square off_grid soaked_square soaked_grid leaves_in last_in added_in soaked_in square_record record_of room_slots newest_record remains new_depth depths_fit new_outflow new_soaked late_refusals step_record world_after one_each waters_fine times_fine held_and_gone came_and_added depth_before square_restorable restorable world_before early_refusals back_refusals back_number taken_back side_drop drops_of square_candidates candidates leaves_for soaked_for soak_by soak_due added_for step_length step_duration square_ground_fine grounds_fine check_refusals step_number stepped fresh_run depths_fine shared_refusals quotient_of Speeds.side_speed out_through near_depth through_side all_still arrow_by sighted seen_by asked_fine arrow_early_refusals arrow_refusals arrow_number seen_at Ieee.sub
sheet_cases =
    record {
      first-drops = refl;
      first-workings = refl;
      first-east = refl;
      first_record = refl;
      second_made = refl;
      second-duration = refl;
      second-drops = refl;
      second-workings = refl;
      second-depths = refl;
      second_record = refl;
      back_made = refl;
      back_depths = refl;
      back_lasts = refl;
      back_clock = refl;
      arrow = refl;
      arrow_quotient = refl;
      arrow_into = refl;
    }

-- an exit alone, two equal levels, and a sheet that soaks
record Others : Type 0 where
  exit : ExitCases exit_meadow
  level : LevelCases level_meadow
  soak : SoakCases soak_meadow
  column : ColumnCases column_meadow

others : Others
unfolding pick every all_below refusal tabulate filled joined placed sum_below water_fine root_from root_of row_gives table_gives rain_by on_square inflow_by row_fine table_fine slot_after slot_before ring_fine record_in beside opposite on_rim shape_fine closed exit mark_fine marks_fine inflow_square_fine inflow_squares_fine drop_off candidate counts side_candidates candidates_of least_from held_between fresh_length is_update length_at duration_for side_fine rate_fine ground_fine rules_fine lesser_positive least_drop greatest_drop drop_sum height_of slope_of critical_speed manning_speed speed_of most_through total_of through_sides nothing_unless weighted_sides weighed run_values_fine run_fine gone sent came off_side off_square off_grid soaked_square soaked_grid leaves_in last_in added_in soaked_in square_record record_of room_slots newest_record remains new_depth depths_fit new_outflow new_soaked late_refusals step_record world_after one_each waters_fine times_fine held_and_gone came_and_added depth_before square_restorable restorable world_before early_refusals back_refusals back_number taken_back side_drop drops_of square_candidates candidates leaves_for soaked_for soak_by soak_due added_for step_length step_duration square_ground_fine grounds_fine check_refusals step_number stepped fresh_run depths_fine shared_refusals quotient_of Speeds.side_speed out_through near_depth through_side all_still arrow_by sighted seen_by asked_fine arrow_early_refusals arrow_refusals arrow_number seen_at Ieee.sub
others =
    record {
      exit = record { exit-drops = refl; exit-workings = refl; exit_record = refl; exit-depth = refl; exit_outflow = refl };
      level = record { level_made = refl; level-depths = refl; level_record = refl };
      column = record { arrow = refl };
      soak =
          record {
            first_due = refl;
            second_due = refl;
            first-depths = refl;
            first_soaked = refl;
            second-depths = refl;
            second_record = refl;
            second_soaked = refl;
            second_lasts = refl;
            back_depths = refl;
            back_soaked = refl;
          };
    }

number_cases : NumberCases
unfolding pick all_below sum_below root_from root_of row_gives table_gives rain_by on_square inflow_by candidate counts side_candidates candidates_of height_of slope_of lesser_positive least_drop greatest_drop drop_sum critical_speed manning_speed speed_of most_through total_of
number_cases =
    record {
      candidate = refl;
      no_candidate = refl;
      thin_speed = refl;
      thin_most = refl;
      thin_total = refl;
      rain_before = refl;
      rain-by = refl;
      inflow_before = refl;
      inflow-by = refl;
    }

-- ---- what `meadow` prints

printed : meadow_text (bytes_of document_sheet) ≡ bytes_of document_output
unfolding pick every all_below first_failing refusal tabulate filled joined placed sum_below water_fine root_from root_of row_gives table_gives rain_by on_square inflow_by row_fine table_fine slot_after slot_before ring_fine record_in beside opposite on_rim shape_fine closed exit mark_fine marks_fine inflow_square_fine inflow_squares_fine drop_off candidate counts side_candidates candidates_of least_from held_between fresh_length is_update length_at duration_for side_fine rate_fine ground_fine rules_fine lesser_positive least_drop greatest_drop drop_sum height_of slope_of critical_speed manning_speed speed_of most_through total_of through_sides nothing_unless weighted_sides weighed run_values_fine run_fine gone sent came off_side off_square off_grid soaked_square soaked_grid leaves_in last_in added_in soaked_in square_record record_of room_slots newest_record remains new_depth depths_fit new_outflow new_soaked late_refusals step_record world_after one_each waters_fine times_fine held_and_gone came_and_added depth_before square_restorable restorable world_before early_refusals back_refusals back_number taken_back side_drop drops_of square_candidates candidates leaves_for soaked_for soak_by soak_due added_for step_length step_duration square_ground_fine grounds_fine end_fine check_refusals step_number stepped go_on run_from run_to fresh_run is_byte word_at is_digit digits_of value_from well_formed number_from number_at field_at before read_fields line_ended read_rest read_line padded as_fields line_length next_line line_from digits_in decimal field_text fields_text rest_text line_text as_grid grid_line as_run run_line closed_cell as_open open_cell marked_cell placed_cell cell_line cells_read rows_read table_rows bad_line cells_filled rooms_filled rooms_fine checks_in heading_of judged sheet_of refused_text cell_text cells_text made_text totals_text ended_text run_text sheet_text meadow_text depths_fine shared_refusals quotient_of Speeds.side_speed out_through near_depth through_side all_still arrow_by sighted seen_by asked_fine arrow_early_refusals arrow_refusals arrow_number seen_at Ieee.sub bytes_of
printed = refl

text_shape : shape_of (bytes_of whole_sheet) ≡ record { rows = 2; columns = 1 }
unfolding pick every all_below first_failing refusal tabulate filled joined placed sum_below water_fine root_from root_of row_gives table_gives rain_by on_square inflow_by row_fine table_fine slot_after slot_before ring_fine record_in beside opposite on_rim shape_fine closed exit mark_fine marks_fine inflow_square_fine inflow_squares_fine drop_off candidate counts side_candidates candidates_of least_from held_between fresh_length is_update length_at duration_for side_fine rate_fine ground_fine rules_fine lesser_positive least_drop greatest_drop drop_sum height_of slope_of critical_speed manning_speed speed_of most_through total_of through_sides nothing_unless weighted_sides weighed run_values_fine run_fine gone sent came off_side off_square off_grid soaked_square soaked_grid leaves_in last_in added_in soaked_in square_record record_of room_slots newest_record remains new_depth depths_fit new_outflow new_soaked late_refusals step_record world_after one_each waters_fine times_fine held_and_gone came_and_added depth_before square_restorable restorable world_before early_refusals back_refusals back_number taken_back side_drop drops_of square_candidates candidates leaves_for soaked_for soak_by soak_due added_for step_length step_duration square_ground_fine grounds_fine end_fine check_refusals step_number stepped go_on run_from run_to fresh_run is_byte word_at is_digit digits_of value_from well_formed number_from number_at field_at before read_fields line_ended read_rest read_line padded as_fields line_length next_line line_from digits_in decimal field_text fields_text rest_text line_text as_grid grid_line as_run run_line closed_cell as_open open_cell marked_cell placed_cell cell_line cells_read rows_read table_rows bad_line cells_filled rooms_filled rooms_fine checks_in heading_of judged sheet_of refused_text cell_text cells_text made_text totals_text ended_text run_text sheet_text meadow_text depths_fine shared_refusals quotient_of Speeds.side_speed out_through near_depth through_side all_still arrow_by sighted seen_by asked_fine arrow_early_refusals arrow_refusals arrow_number seen_at Ieee.sub bytes_of
text_shape = refl

text_rules : (line_two (bytes_of whole_sheet)).rules ≡ record { square_side = 3; tolerance = 10; shortest = 300; longest = 700; update = 1_000; edge = 5; edition = 2 }
unfolding pick every all_below first_failing refusal tabulate filled joined placed sum_below water_fine root_from root_of row_gives table_gives rain_by on_square inflow_by row_fine table_fine slot_after slot_before ring_fine record_in beside opposite on_rim shape_fine closed exit mark_fine marks_fine inflow_square_fine inflow_squares_fine drop_off candidate counts side_candidates candidates_of least_from held_between fresh_length is_update length_at duration_for side_fine rate_fine ground_fine rules_fine lesser_positive least_drop greatest_drop drop_sum height_of slope_of critical_speed manning_speed speed_of most_through total_of through_sides nothing_unless weighted_sides weighed run_values_fine run_fine gone sent came off_side off_square off_grid soaked_square soaked_grid leaves_in last_in added_in soaked_in square_record record_of room_slots newest_record remains new_depth depths_fit new_outflow new_soaked late_refusals step_record world_after one_each waters_fine times_fine held_and_gone came_and_added depth_before square_restorable restorable world_before early_refusals back_refusals back_number taken_back side_drop drops_of square_candidates candidates leaves_for soaked_for soak_by soak_due added_for step_length step_duration square_ground_fine grounds_fine end_fine check_refusals step_number stepped go_on run_from run_to fresh_run is_byte word_at is_digit digits_of value_from well_formed number_from number_at field_at before read_fields line_ended read_rest read_line padded as_fields line_length next_line line_from digits_in decimal field_text fields_text rest_text line_text as_grid grid_line as_run run_line closed_cell as_open open_cell marked_cell placed_cell cell_line cells_read rows_read table_rows bad_line cells_filled rooms_filled rooms_fine checks_in heading_of judged sheet_of refused_text cell_text cells_text made_text totals_text ended_text run_text sheet_text meadow_text depths_fine shared_refusals quotient_of Speeds.side_speed out_through near_depth through_side all_still arrow_by sighted seen_by asked_fine arrow_early_refusals arrow_refusals arrow_number seen_at Ieee.sub bytes_of
text_rules = refl

text_end : (line_two (bytes_of whole_sheet)).end ≡ 2_000
unfolding pick every all_below first_failing refusal tabulate filled joined placed sum_below water_fine root_from root_of row_gives table_gives rain_by on_square inflow_by row_fine table_fine slot_after slot_before ring_fine record_in beside opposite on_rim shape_fine closed exit mark_fine marks_fine inflow_square_fine inflow_squares_fine drop_off candidate counts side_candidates candidates_of least_from held_between fresh_length is_update length_at duration_for side_fine rate_fine ground_fine rules_fine lesser_positive least_drop greatest_drop drop_sum height_of slope_of critical_speed manning_speed speed_of most_through total_of through_sides nothing_unless weighted_sides weighed run_values_fine run_fine gone sent came off_side off_square off_grid soaked_square soaked_grid leaves_in last_in added_in soaked_in square_record record_of room_slots newest_record remains new_depth depths_fit new_outflow new_soaked late_refusals step_record world_after one_each waters_fine times_fine held_and_gone came_and_added depth_before square_restorable restorable world_before early_refusals back_refusals back_number taken_back side_drop drops_of square_candidates candidates leaves_for soaked_for soak_by soak_due added_for step_length step_duration square_ground_fine grounds_fine end_fine check_refusals step_number stepped go_on run_from run_to fresh_run is_byte word_at is_digit digits_of value_from well_formed number_from number_at field_at before read_fields line_ended read_rest read_line padded as_fields line_length next_line line_from digits_in decimal field_text fields_text rest_text line_text as_grid grid_line as_run run_line closed_cell as_open open_cell marked_cell placed_cell cell_line cells_read rows_read table_rows bad_line cells_filled rooms_filled rooms_fine checks_in heading_of judged sheet_of refused_text cell_text cells_text made_text totals_text ended_text run_text sheet_text meadow_text depths_fine shared_refusals quotient_of Speeds.side_speed out_through near_depth through_side all_still arrow_by sighted seen_by asked_fine arrow_early_refusals arrow_refusals arrow_number seen_at Ieee.sub bytes_of
text_end = refl

text_cells : (said (bytes_of whole_sheet)).cells ≡ cells_rooms (1 ∷ 0 ∷ []) (60 ∷ 0 ∷ []) (100 ∷ 0 ∷ []) (36 ∷ 0 ∷ []) (50 ∷ 0 ∷ [])
unfolding pick every all_below first_failing refusal tabulate filled joined placed sum_below water_fine root_from root_of row_gives table_gives rain_by on_square inflow_by row_fine table_fine slot_after slot_before ring_fine record_in beside opposite on_rim shape_fine closed exit mark_fine marks_fine inflow_square_fine inflow_squares_fine drop_off candidate counts side_candidates candidates_of least_from held_between fresh_length is_update length_at duration_for side_fine rate_fine ground_fine rules_fine lesser_positive least_drop greatest_drop drop_sum height_of slope_of critical_speed manning_speed speed_of most_through total_of through_sides nothing_unless weighted_sides weighed run_values_fine run_fine gone sent came off_side off_square off_grid soaked_square soaked_grid leaves_in last_in added_in soaked_in square_record record_of room_slots newest_record remains new_depth depths_fit new_outflow new_soaked late_refusals step_record world_after one_each waters_fine times_fine held_and_gone came_and_added depth_before square_restorable restorable world_before early_refusals back_refusals back_number taken_back side_drop drops_of square_candidates candidates leaves_for soaked_for soak_by soak_due added_for step_length step_duration square_ground_fine grounds_fine end_fine check_refusals step_number stepped go_on run_from run_to fresh_run is_byte word_at is_digit digits_of value_from well_formed number_from number_at field_at before read_fields line_ended read_rest read_line padded as_fields line_length next_line line_from digits_in decimal field_text fields_text rest_text line_text as_grid grid_line as_run run_line closed_cell as_open open_cell marked_cell placed_cell cell_line cells_read rows_read table_rows bad_line cells_filled rooms_filled rooms_fine checks_in heading_of judged sheet_of refused_text cell_text cells_text made_text totals_text ended_text run_text sheet_text meadow_text depths_fine shared_refusals quotient_of Speeds.side_speed out_through near_depth through_side all_still arrow_by sighted seen_by asked_fine arrow_early_refusals arrow_refusals arrow_number seen_at Ieee.sub bytes_of
text_cells = refl

text_rain : rain_table (bytes_of whole_sheet) ≡ 51 ∷ 150 ∷ 90 ∷ []
unfolding pick every all_below first_failing refusal tabulate filled joined placed sum_below water_fine root_from root_of row_gives table_gives rain_by on_square inflow_by row_fine table_fine slot_after slot_before ring_fine record_in beside opposite on_rim shape_fine closed exit mark_fine marks_fine inflow_square_fine inflow_squares_fine drop_off candidate counts side_candidates candidates_of least_from held_between fresh_length is_update length_at duration_for side_fine rate_fine ground_fine rules_fine lesser_positive least_drop greatest_drop drop_sum height_of slope_of critical_speed manning_speed speed_of most_through total_of through_sides nothing_unless weighted_sides weighed run_values_fine run_fine gone sent came off_side off_square off_grid soaked_square soaked_grid leaves_in last_in added_in soaked_in square_record record_of room_slots newest_record remains new_depth depths_fit new_outflow new_soaked late_refusals step_record world_after one_each waters_fine times_fine held_and_gone came_and_added depth_before square_restorable restorable world_before early_refusals back_refusals back_number taken_back side_drop drops_of square_candidates candidates leaves_for soaked_for soak_by soak_due added_for step_length step_duration square_ground_fine grounds_fine end_fine check_refusals step_number stepped go_on run_from run_to fresh_run is_byte word_at is_digit digits_of value_from well_formed number_from number_at field_at before read_fields line_ended read_rest read_line padded as_fields line_length next_line line_from digits_in decimal field_text fields_text rest_text line_text as_grid grid_line as_run run_line closed_cell as_open open_cell marked_cell placed_cell cell_line cells_read rows_read table_rows bad_line cells_filled rooms_filled rooms_fine checks_in heading_of judged sheet_of refused_text cell_text cells_text made_text totals_text ended_text run_text sheet_text meadow_text depths_fine shared_refusals quotient_of Speeds.side_speed out_through near_depth through_side all_still arrow_by sighted seen_by asked_fine arrow_early_refusals arrow_refusals arrow_number seen_at Ieee.sub bytes_of
text_rain = refl

text_inflow : inflow_table (bytes_of whole_sheet) ≡ 0 ∷ 0 ∷ 7 ∷ 101 ∷ 8 ∷ []
unfolding pick every all_below first_failing refusal tabulate filled joined placed sum_below water_fine root_from root_of row_gives table_gives rain_by on_square inflow_by row_fine table_fine slot_after slot_before ring_fine record_in beside opposite on_rim shape_fine closed exit mark_fine marks_fine inflow_square_fine inflow_squares_fine drop_off candidate counts side_candidates candidates_of least_from held_between fresh_length is_update length_at duration_for side_fine rate_fine ground_fine rules_fine lesser_positive least_drop greatest_drop drop_sum height_of slope_of critical_speed manning_speed speed_of most_through total_of through_sides nothing_unless weighted_sides weighed run_values_fine run_fine gone sent came off_side off_square off_grid soaked_square soaked_grid leaves_in last_in added_in soaked_in square_record record_of room_slots newest_record remains new_depth depths_fit new_outflow new_soaked late_refusals step_record world_after one_each waters_fine times_fine held_and_gone came_and_added depth_before square_restorable restorable world_before early_refusals back_refusals back_number taken_back side_drop drops_of square_candidates candidates leaves_for soaked_for soak_by soak_due added_for step_length step_duration square_ground_fine grounds_fine end_fine check_refusals step_number stepped go_on run_from run_to fresh_run is_byte word_at is_digit digits_of value_from well_formed number_from number_at field_at before read_fields line_ended read_rest read_line padded as_fields line_length next_line line_from digits_in decimal field_text fields_text rest_text line_text as_grid grid_line as_run run_line closed_cell as_open open_cell marked_cell placed_cell cell_line cells_read rows_read table_rows bad_line cells_filled rooms_filled rooms_fine checks_in heading_of judged sheet_of refused_text cell_text cells_text made_text totals_text ended_text run_text sheet_text meadow_text depths_fine shared_refusals quotient_of Speeds.side_speed out_through near_depth through_side all_still arrow_by sighted seen_by asked_fine arrow_early_refusals arrow_refusals arrow_number seen_at Ieee.sub bytes_of
text_inflow = refl

text_printed :
    made_text (plan (record { rows = 1; columns = 3 }) (1 ∷ 0 ∷ 2 ∷ [])) (7 ∷ 8 ∷ 9 ∷ [])
    (record { clock = 4; length = 5; outflow = 1; kept = 6; newest = 10; soaked = 2 }) 3
    ≡ bytes_of printed_world
unfolding pick every all_below first_failing refusal tabulate filled joined placed sum_below water_fine root_from root_of row_gives table_gives rain_by on_square inflow_by row_fine table_fine slot_after slot_before ring_fine record_in beside opposite on_rim shape_fine closed exit mark_fine marks_fine inflow_square_fine inflow_squares_fine drop_off candidate counts side_candidates candidates_of least_from held_between fresh_length is_update length_at duration_for side_fine rate_fine ground_fine rules_fine lesser_positive least_drop greatest_drop drop_sum height_of slope_of critical_speed manning_speed speed_of most_through total_of through_sides nothing_unless weighted_sides weighed run_values_fine run_fine gone sent came off_side off_square off_grid soaked_square soaked_grid leaves_in last_in added_in soaked_in square_record record_of room_slots newest_record remains new_depth depths_fit new_outflow new_soaked late_refusals step_record world_after one_each waters_fine times_fine held_and_gone came_and_added depth_before square_restorable restorable world_before early_refusals back_refusals back_number taken_back side_drop drops_of square_candidates candidates leaves_for soaked_for soak_by soak_due added_for step_length step_duration square_ground_fine grounds_fine end_fine check_refusals step_number stepped go_on run_from run_to fresh_run is_byte word_at is_digit digits_of value_from well_formed number_from number_at field_at before read_fields line_ended read_rest read_line padded as_fields line_length next_line line_from digits_in decimal field_text fields_text rest_text line_text as_grid grid_line as_run run_line closed_cell as_open open_cell marked_cell placed_cell cell_line cells_read rows_read table_rows bad_line cells_filled rooms_filled rooms_fine checks_in heading_of judged sheet_of refused_text cell_text cells_text made_text totals_text ended_text run_text sheet_text meadow_text depths_fine shared_refusals quotient_of Speeds.side_speed out_through near_depth through_side all_still arrow_by sighted seen_by asked_fine arrow_early_refusals arrow_refusals arrow_number seen_at Ieee.sub bytes_of
text_printed = refl

text_cases : TextCases
text_cases = record { shape = text_shape; rules = text_rules; end = text_end; cells = text_cells; rain = text_rain; inflow = text_inflow; printed = text_printed }

ditch_cases : DitchCases
unfolding pick every all_below first_failing refusal tabulate filled joined placed sum_below water_fine root_from root_of row_gives table_gives rain_by on_square inflow_by row_fine table_fine slot_after slot_before ring_fine record_in beside opposite on_rim shape_fine closed exit mark_fine marks_fine inflow_square_fine inflow_squares_fine drop_off candidate counts side_candidates candidates_of least_from held_between fresh_length is_update length_at duration_for side_fine rate_fine ground_fine rules_fine lesser_positive least_drop greatest_drop drop_sum height_of slope_of critical_speed manning_speed speed_of most_through total_of through_sides nothing_unless weighted_sides weighed run_values_fine run_fine gone sent came off_side off_square off_grid soaked_square soaked_grid leaves_in last_in added_in soaked_in square_record record_of room_slots newest_record remains new_depth depths_fit new_outflow new_soaked late_refusals step_record world_after one_each waters_fine times_fine held_and_gone came_and_added depth_before square_restorable restorable world_before early_refusals back_refusals back_number taken_back side_drop drops_of square_candidates candidates leaves_for soaked_for soak_by soak_due added_for step_length step_duration square_ground_fine grounds_fine end_fine check_refusals step_number stepped go_on run_from run_to fresh_run is_byte word_at is_digit digits_of value_from well_formed number_from number_at field_at before read_fields line_ended read_rest read_line padded as_fields line_length next_line line_from digits_in decimal field_text fields_text rest_text line_text as_grid grid_line as_run run_line closed_cell as_open open_cell marked_cell placed_cell cell_line cells_read rows_read table_rows bad_line cells_filled rooms_filled rooms_fine checks_in heading_of judged sheet_of refused_text cell_text cells_text made_text totals_text ended_text run_text sheet_text meadow_text depths_fine shared_refusals quotient_of Speeds.side_speed out_through near_depth through_side all_still arrow_by sighted seen_by asked_fine arrow_early_refusals arrow_refusals arrow_number seen_at Ieee.sub bytes_of
ditch_cases =
    record {
      edge_binds = refl;
      edge_free = refl;
      least = refl;
      shortest = refl;
      longest = refl;
      none = refl;
      held = refl;
      afresh = refl;
      last_of_span = refl;
      own_square = refl;
      other_square = refl;
      overlapping = refl;
    }

edition_cases : EditionCases
unfolding pick root_from root_of height_of slope_of lesser_positive least_drop greatest_drop drop_sum critical_speed manning_speed speed_of most_through total_of through_sides nothing_unless weighted_sides directed_amount directed_amounts scaled_to directed_sides unlimited_total unlimited_sides weighed
edition_cases = record { directed_alone = refl; directed_scaled = refl; limited = refl; unlimited = refl }

lent_cases : LentCases
unfolding sight_number speeds_in bounds_told figures_in fresh_run
lent_cases =
    record {
      shape = refl;
      rules = refl;
      run = refl;
      run-told = refl;
      heading-told = refl;
      closed-told = refl;
      dry-told = refl;
      still_told = refl;
      speeds_told = refl;
      bounds-told = refl;
      unbounded_told = refl;
      fresh = refl;
    }

pub proved_cases : ProvedCases
proved_cases =
    record {
      printed = printed;
      sheet = subst SheetCases (sym texts.document) sheet_cases;
      exit = subst ExitCases (sym texts.exit) others.exit;
      level = subst LevelCases (sym texts.level) others.level;
      numbers = number_cases;
      editions = edition_cases;
      soaking = subst SoakCases (sym texts.soak) others.soak;
      texts = text_cases;
      ditch_mouth = ditch_cases;
      column = subst ColumnCases (sym texts.column) others.column;
      lent = lent_cases;
    }
