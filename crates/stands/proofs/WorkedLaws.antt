-- The worked text, by computation.
-- Assumes nothing.
use mathlib.Core.Path.{refl}
use Rattle.reckon.specs.Tests.{pick, every, all_below, first_failing, refusal}
use Rattle.reckon.specs.Lists.{tabulate, joined, sum_below}
use Rattle.trials.specs.Ring.{ring_fine}
use Rattle.grid.specs.Marks.{closed}
use Rattle.ledger.specs.Runs.{run_fine, run_values_fine}
use Rattle.text.specs.Bytes.{bytes_of}
use Rattle.text.specs.Reading.{is_byte, word_at, is_digit, digits_of, value_from, well_formed, number_from, number_at, field_at, before, read_fields, line_ended, read_rest, read_line, padded, as_fields}
use Rattle.text.specs.Writing.{digits_in, decimal, field_text, fields_text, rest_text, line_text}
use Rattle.hatches.specs.Log.{hatch_row, hatch_rows, standing_fine}
use Rattle.stands.specs.Texts.{total_text, first_text, head_text, hatch_text, hatches_text, square_text, squares_text}
use Rattle.stands.specs.Laying.{as_first, stand_line, as_total, total_line, head_of, if_hatch, with_hatch, named_from, closed_square, as_square, square_line, start_from, squares_read, lines_from, bad_after, hatch_fine, hatches_fine, draws_fine, state_fine}
use Rattle.stands.specs.Worked.{PutWorked, ReadWorked, LinesRefused, NumbersRefused}

pub put_worked : PutWorked
unfolding bytes_of pick joined closed digits_in decimal field_text fields_text rest_text line_text total_text first_text head_text hatch_text hatches_text square_text squares_text
put_worked = record { head = refl; hatches = refl; squares = refl }

pub read_worked : ReadWorked
unfolding bytes_of pick every all_below refusal tabulate closed is_byte word_at is_digit digits_of value_from well_formed number_from number_at field_at before read_fields line_ended read_rest read_line padded as_fields as_first stand_line as_total total_line head_of if_hatch with_hatch named_from closed_square as_square square_line start_from
read_worked = record { head = refl; hatches = refl; first_square = refl; closed-square = refl; last_square = refl }

pub lines_refused : LinesRefused
unfolding bytes_of pick every all_below first_failing refusal tabulate sum_below closed is_byte word_at is_digit digits_of value_from well_formed number_from number_at field_at before read_fields line_ended read_rest read_line padded as_fields as_first stand_line as_total total_line head_of if_hatch with_hatch named_from closed_square as_square square_line start_from squares_read lines_from bad_after
lines_refused =
    record {
      opening_two = refl;
      word_missing = refl;
      taken = refl;
      missing = refl;
      another_square = refl;
      left_over = refl;
      hatch_before = refl;
      hatches_falling = refl;
      hatch_ten = refl;
    }

pub numbers_refused : NumbersRefused
unfolding pick every all_below joined ring_fine closed run_fine run_values_fine hatch_row hatch_rows standing_fine hatch_fine hatches_fine draws_fine state_fine
numbers_refused =
    record {
      hatches-fine = refl;
      on_closed = refl;
      off-grid = refl;
      litres_most = refl;
      litres_above = refl;
      table_full = refl;
      table_over = refl;
      state-fine = refl;
      no_slots = refl;
      too_many_steps = refl;
      clock_above = refl;
      length_none = refl;
      outflow_above = refl;
      at_most = refl;
      start_above = refl;
      given_above = refl;
    }
