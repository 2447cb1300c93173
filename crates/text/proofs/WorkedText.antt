-- The numbers and lines worked by hand, by computation.
-- Assumes nothing.
use mathlib.Core.Path.{refl}
use Rattle.reckon.specs.Tests.{pick, all_below}
use Rattle.text.specs.Bytes.{bytes_of}
use Rattle.text.specs.Reading.{is_byte, word_at, is_digit, digits_of, value_from, well_formed, number_from, number_at, field_at, before, read_fields, line_ended, read_rest, read_line, line_length, next_line}
use Rattle.text.specs.Writing.{digits_in, decimal, field_text, fields_text, rest_text, line_text}
use Rattle.text.specs.Worked.{NumbersWorked, LinesWorked}

pub numbers_worked : NumbersWorked
unfolding pick is_digit digits_of value_from well_formed number_from number_at digits_in decimal bytes_of
numbers_worked =
    record {
      zero_read = refl;
      needless_zero = refl;
      greatest = refl;
      too_great = refl;
      signed = refl;
      nothing = refl;
      zero_written = refl;
      greatest_written = refl;
    }

pub lines_worked : LinesWorked
unfolding pick all_below is_byte word_at is_digit digits_of value_from well_formed number_from number_at field_at before read_fields line_ended read_rest read_line line_length next_line digits_in decimal field_text fields_text rest_text line_text bytes_of
lines_worked =
    record {
      run_read = refl;
      run-written = refl;
      run_next = refl;
      rain_read = refl;
      carriage_return = refl;
      no_newline = refl;
      a_field_too_many = refl;
    }
