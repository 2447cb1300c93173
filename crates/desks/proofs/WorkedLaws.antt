-- The cases of the desk's lines, by computation.
-- Assumes nothing.
use mathlib.Core.Path.{refl}
use Rattle.reckon.specs.Lists.{filled, joined, placed, sum_below, tabulate}
use Rattle.reckon.specs.Ranges.{rate_fine, side_fine, water_fine}
use Rattle.reckon.specs.Roots.{root_from, root_of}
use Rattle.reckon.specs.Soaking.{soak_by, soak_due}
use Rattle.reckon.specs.Tables.{inflow_by, on_square, rain_by, row_fine, row_gives, table_fine, table_gives}
use Rattle.reckon.specs.Tests.{all_below, every, first_failing, pick, refusal}
use Rattle.trials.specs.Ring.{ring_fine, slot_after, slot_ago, slot_before}
use Rattle.trials.specs.Room.{record_in}
use Rattle.grid.specs.Marks.{closed, exit, inflow_square_fine, inflow_squares_fine, mark_fine, marks_fine}
use Rattle.grid.specs.Squares.{beside, on_rim, opposite, shape_fine}
use Rattle.rule.specs.Drops.{drop_off}
use Rattle.rule.specs.Length.{candidate, candidates_of, counts, duration_for, fresh_length, held_between, is_update, least_from, length_at, side_candidates}
use Rattle.rule.specs.Rules.{ground_fine, rules_fine}
use Rattle.rule.specs.Weighing.{critical_speed, directed_amount, directed_amounts, directed_sides, drop_sum, greatest_drop, height_of, least_drop, lesser_positive, manning_speed, most_through, nothing_unless, scaled_to, slope_of, speed_of, through_sides, total_of, unlimited_sides, unlimited_total, weighed, weighted_sides}
use Rattle.ledger.specs.Account.{over_open, water}
use Rattle.ledger.specs.After.{depths_fit, late_refusals, new_depth, new_outflow, new_soaked, remains, step_record, world_after}
use Rattle.ledger.specs.Checks.{one_each, times_fine, waters_fine}
use Rattle.ledger.specs.Flows.{came, gone, off_grid, off_side, off_square, sent, soaked_grid, soaked_square}
use Rattle.ledger.specs.Record.{added_in, last_in, leaves_in, newest_record, record_of, room_slots, soaked_in, square_record}
use Rattle.ledger.specs.Runs.{run_fine, run_values_fine}
use Rattle.ledger.specs.TakeBack.{back_number, back_refusals, came_and_added, depth_before, early_refusals, held_and_gone, restorable, square_restorable, taken_back, world_before}
use Rattle.checks.specs.Refusals.{check_refusals, grounds_fine, square_ground_fine}
use Rattle.adding.specs.Account.{tables_give}
use Rattle.adding.specs.Added.{added_for}
use Rattle.moves.specs.Drops.{drops_of, side_drop}
use Rattle.moves.specs.Moves.{candidates, leaves_for, soaked_for, square_candidates, step_duration, step_length}
use Rattle.flood.specs.Run.{go_on}
use Rattle.flood.specs.Step.{step_number, stepped}
use Rattle.text.specs.Bytes.{bytes_of}
use Rattle.text.specs.Reading.{before, digits_of, field_at, is_byte, is_digit, line_ended, number_at, number_from, read_fields, read_line, read_rest, value_from, well_formed, word_at}
use Rattle.text.specs.Writing.{decimal, digits_in, field_text, fields_text, line_text, rest_text}
use Rattle.answer.specs.Printed.{refused_text}
use Rattle.hatches.specs.Log.{draw_fine, hatch_row, hatch_rows, is_named, kept_fine, line_fine, rates_back, rates_kept, standing_fine}
use Rattle.evenings.specs.Taking.{after_back, back_from}
use Rattle.frames.specs.Frame.{figures_text, frame_text, rates_text, row_text, rows_text, square_text}
use Rattle.trying.specs.Lines.{back_came, draw_tried, given_back, name_tried, step_came, try_refusals}
use Rattle.desks.specs.Command.{command_left, is_sheet, other_left, ready_number, step_left, wanted_by}
use Rattle.desks.specs.Lines.{back_told, ending_text, entry_told, next_told, order_told, state_text, step_told, steps_left}
use Rattle.desks.specs.Orders.{look_order, order, read_whole, try_order}
use Rattle.desks.specs.State.{heading_fine, kept_slots}
use Rattle.trying.specs.Lines as trying
use Rattle.desks.specs.Worked.{OrderCases, LineCases, StepCases, BackCases, ShowCases}

pub order_cases : OrderCases
unfolding pick every all_below bytes_of is_byte word_at is_digit digits_of value_from well_formed number_from number_at field_at before read_fields line_ended read_rest read_line read_whole look_order try_order order
order_cases =
    record {
      a_sheet = refl;
      a_hatch = refl;
      a_draw = refl;
      a_step = refl;
      a_back = refl;
      a_show = refl;
      some_arrows = refl;
      the_most = refl;
      a_stand = refl;
      a_lay = refl;
      not_ended = refl;
      two_lines = refl;
      too_few = refl;
      too_many = refl;
      no_word = refl;
    }

pub line_cases : LineCases
unfolding filled joined placed sum_below tabulate rate_fine side_fine water_fine root_from root_of soak_by soak_due inflow_by on_square rain_by row_fine row_gives table_fine table_gives all_below every pick refusal ring_fine slot_after slot_ago slot_before record_in closed exit inflow_square_fine inflow_squares_fine mark_fine marks_fine beside on_rim opposite shape_fine drop_off candidate candidates_of counts duration_for fresh_length held_between is_update least_from length_at side_candidates ground_fine rules_fine critical_speed directed_amount directed_amounts directed_sides drop_sum greatest_drop height_of least_drop lesser_positive manning_speed most_through nothing_unless scaled_to slope_of speed_of through_sides total_of unlimited_sides unlimited_total weighed weighted_sides over_open water depths_fit late_refusals new_depth new_outflow new_soaked remains step_record world_after one_each times_fine waters_fine came gone off_grid off_side off_square sent soaked_grid soaked_square added_in last_in leaves_in newest_record record_of room_slots soaked_in square_record run_values_fine back_number back_refusals came_and_added depth_before early_refusals held_and_gone restorable square_restorable taken_back world_before check_refusals grounds_fine square_ground_fine tables_give added_for drops_of side_drop candidates leaves_for soaked_for square_candidates step_duration step_length go_on step_number stepped bytes_of before digits_of field_at is_byte is_digit line_ended number_at number_from read_fields read_line read_rest value_from well_formed word_at decimal digits_in field_text fields_text line_text rest_text refused_text draw_fine hatch_row hatch_rows is_named kept_fine line_fine rates_back rates_kept standing_fine after_back back_from figures_text frame_text rates_text row_text rows_text square_text back_came trying.back_refusals draw_tried given_back name_tried step_came try_refusals command_left is_sheet other_left ready_number step_left wanted_by back_told ending_text entry_told next_told order_told state_text step_told steps_left look_order order read_whole try_order heading_fine kept_slots run_fine first_failing
line_cases = record { named = refl; named-twice = refl; on_closed = refl; drawn = refl; not_named = refl; asked = refl; too_late = refl }

pub step_cases : StepCases
unfolding filled joined placed sum_below tabulate rate_fine side_fine water_fine root_from root_of soak_by soak_due inflow_by on_square rain_by row_fine row_gives table_fine table_gives all_below every pick refusal ring_fine slot_after slot_ago slot_before record_in closed exit inflow_square_fine inflow_squares_fine mark_fine marks_fine beside on_rim opposite shape_fine drop_off candidate candidates_of counts duration_for fresh_length held_between is_update least_from length_at side_candidates ground_fine rules_fine critical_speed directed_amount directed_amounts directed_sides drop_sum greatest_drop height_of least_drop lesser_positive manning_speed most_through nothing_unless scaled_to slope_of speed_of through_sides total_of unlimited_sides unlimited_total weighed weighted_sides over_open water depths_fit late_refusals new_depth new_outflow new_soaked remains step_record world_after one_each times_fine waters_fine came gone off_grid off_side off_square sent soaked_grid soaked_square added_in last_in leaves_in newest_record record_of room_slots soaked_in square_record run_values_fine back_number back_refusals came_and_added depth_before early_refusals held_and_gone restorable square_restorable taken_back world_before check_refusals grounds_fine square_ground_fine tables_give added_for drops_of side_drop candidates leaves_for soaked_for square_candidates step_duration step_length go_on step_number stepped bytes_of before digits_of field_at is_byte is_digit line_ended number_at number_from read_fields read_line read_rest value_from well_formed word_at decimal digits_in field_text fields_text line_text rest_text refused_text draw_fine hatch_row hatch_rows is_named kept_fine line_fine rates_back rates_kept standing_fine after_back back_from figures_text frame_text rates_text row_text rows_text square_text back_came trying.back_refusals draw_tried given_back name_tried step_came try_refusals command_left is_sheet other_left ready_number step_left wanted_by back_told ending_text entry_told next_told order_told state_text step_told steps_left look_order order read_whole try_order heading_fine kept_slots run_fine first_failing
step_cases = record { made = refl; ended = refl }

pub back_cases : BackCases
unfolding filled joined placed sum_below tabulate rate_fine side_fine water_fine root_from root_of soak_by soak_due inflow_by on_square rain_by row_fine row_gives table_fine table_gives all_below every pick refusal ring_fine slot_after slot_ago slot_before record_in closed exit inflow_square_fine inflow_squares_fine mark_fine marks_fine beside on_rim opposite shape_fine drop_off candidate candidates_of counts duration_for fresh_length held_between is_update least_from length_at side_candidates ground_fine rules_fine critical_speed directed_amount directed_amounts directed_sides drop_sum greatest_drop height_of least_drop lesser_positive manning_speed most_through nothing_unless scaled_to slope_of speed_of through_sides total_of unlimited_sides unlimited_total weighed weighted_sides over_open water depths_fit late_refusals new_depth new_outflow new_soaked remains step_record world_after one_each times_fine waters_fine came gone off_grid off_side off_square sent soaked_grid soaked_square added_in last_in leaves_in newest_record record_of room_slots soaked_in square_record run_values_fine back_number back_refusals came_and_added depth_before early_refusals held_and_gone restorable square_restorable taken_back world_before check_refusals grounds_fine square_ground_fine tables_give added_for drops_of side_drop candidates leaves_for soaked_for square_candidates step_duration step_length go_on step_number stepped bytes_of before digits_of field_at is_byte is_digit line_ended number_at number_from read_fields read_line read_rest value_from well_formed word_at decimal digits_in field_text fields_text line_text rest_text refused_text draw_fine hatch_row hatch_rows is_named kept_fine line_fine rates_back rates_kept standing_fine after_back back_from figures_text frame_text rates_text row_text rows_text square_text back_came trying.back_refusals draw_tried given_back name_tried step_came try_refusals command_left is_sheet other_left ready_number step_left wanted_by back_told ending_text entry_told next_told order_told state_text step_told steps_left look_order order read_whole try_order heading_fine kept_slots run_fine first_failing
back_cases = record { beyond = refl; back = refl }

pub show_cases : ShowCases
unfolding filled joined placed sum_below tabulate rate_fine side_fine water_fine root_from root_of soak_by soak_due inflow_by on_square rain_by row_fine row_gives table_fine table_gives all_below every pick refusal ring_fine slot_after slot_ago slot_before record_in closed exit inflow_square_fine inflow_squares_fine mark_fine marks_fine beside on_rim opposite shape_fine drop_off candidate candidates_of counts duration_for fresh_length held_between is_update least_from length_at side_candidates ground_fine rules_fine critical_speed directed_amount directed_amounts directed_sides drop_sum greatest_drop height_of least_drop lesser_positive manning_speed most_through nothing_unless scaled_to slope_of speed_of through_sides total_of unlimited_sides unlimited_total weighed weighted_sides over_open water depths_fit late_refusals new_depth new_outflow new_soaked remains step_record world_after one_each times_fine waters_fine came gone off_grid off_side off_square sent soaked_grid soaked_square added_in last_in leaves_in newest_record record_of room_slots soaked_in square_record run_values_fine back_number back_refusals came_and_added depth_before early_refusals held_and_gone restorable square_restorable taken_back world_before check_refusals grounds_fine square_ground_fine tables_give added_for drops_of side_drop candidates leaves_for soaked_for square_candidates step_duration step_length go_on step_number stepped bytes_of before digits_of field_at is_byte is_digit line_ended number_at number_from read_fields read_line read_rest value_from well_formed word_at decimal digits_in field_text fields_text line_text rest_text refused_text draw_fine hatch_row hatch_rows is_named kept_fine line_fine rates_back rates_kept standing_fine after_back back_from figures_text frame_text rates_text row_text rows_text square_text back_came trying.back_refusals draw_tried given_back name_tried step_came try_refusals command_left is_sheet other_left ready_number step_left wanted_by back_told ending_text entry_told next_told order_told state_text step_told steps_left look_order order read_whole try_order heading_fine kept_slots run_fine first_failing
show_cases = record { show = refl }
