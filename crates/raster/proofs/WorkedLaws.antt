-- The numbers and the grids worked by hand, by computation.
-- Assumes nothing.
use mathlib.Core.Path.{refl}
use Rattle.reckon.specs.Tests.{pick, all_below, first_failing}
use Rattle.reckon.specs.Lists.{tabulate, joined, sum_below}
use Rattle.grid.specs.Marks.{closed}
use Rattle.text.specs.Bytes.{bytes_of}
use Rattle.text.specs.Reading.{is_byte, word_at, is_digit, digits_of, value_from, well_formed, number_from, number_at}
use Rattle.text.specs.Writing.{digits_in, decimal}
use Rattle.raster.specs.Amounts.{last_digits, amount_text, places_of, with_decimals, up_to_most, decimals_after, amount_at}
use Rattle.raster.specs.Raster.{head_line_text, head_text, entry_text, grid_text, spaces_of, past_spaces, line_end_after, head_line, only_zero, no_data_at, head_of, bare_entry, past_gap, parted, place_from, line_number, grid_bad}
use Rattle.raster.specs.Worked.{AmountsWorked, SixSquaresWorked, TheirsWorked}

pub amounts_worked : AmountsWorked
unfolding pick is_byte is_digit digits_of value_from well_formed number_from number_at digits_in decimal tabulate last_digits amount_text places_of with_decimals up_to_most decimals_after amount_at bytes_of
amounts_worked =
    record {
      six_written = refl;
      small_written = refl;
      whole_written = refl;
      six_read = refl;
      few_read = refl;
      none_read = refl;
      seven = refl;
      bare-point = refl;
      no_whole = refl;
      signed = refl;
      needless_zero = refl;
      greatest = refl;
      too_great = refl;
      whole_point = refl;
    }

pub six_squares_worked : SixSquaresWorked
unfolding pick all_below first_failing tabulate joined sum_below closed is_byte word_at is_digit digits_of value_from well_formed number_from number_at digits_in decimal last_digits amount_text places_of with_decimals up_to_most decimals_after amount_at head_line_text head_text entry_text grid_text spaces_of past_spaces line_end_after head_line only_zero no_data_at head_of bare_entry past_gap parted place_from line_number grid_bad bytes_of
six_squares_worked =
    record {
      metres_written = refl;
      whole_written = refl;
      head = refl;
      north-west = refl;
      north = refl;
      north-east = refl;
      south-west = refl;
      south-east = refl;
      none_bad = refl;
    }

pub theirs_worked : TheirsWorked
unfolding pick all_below first_failing tabulate sum_below is_byte word_at is_digit digits_of value_from well_formed number_from number_at places_of with_decimals up_to_most decimals_after amount_at spaces_of past_spaces line_end_after head_line only_zero no_data_at head_of bare_entry past_gap parted place_from line_number grid_bad bytes_of
theirs_worked =
    record {
      head = refl;
      first = refl;
      second = refl;
      none_bad = refl;
      a_corner = refl;
      a_cellsize_with_a_point = refl;
      another_no_data = refl;
      seven_decimals = refl;
      a_square_short = refl;
      a_square_too_many = refl;
      a_space-before = refl;
      a_space-after = refl;
      no_row = refl;
      a_row_too_many = refl;
      no_newline = refl;
      a_tab = refl;
      no_whole_number = refl;
    }
