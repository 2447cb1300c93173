-- The list's cases, by computation.
-- Assumes nothing.
use mathlib.Core.Path.{refl}
use Rattle.reckon.specs.Tests.{pick, every, all_below, refusal}
use Rattle.reckon.specs.Lists.{joined, placed}
use Rattle.grid.specs.Marks.{closed}
use Rattle.grid.specs.Squares.{shape_fine}
use Rattle.answer.specs.Printed.{refused_text}
use Rattle.text.specs.Bytes.{bytes_of}
use Rattle.text.specs.Reading.{is_byte, is_digit, digits_of, value_from, well_formed, number_from, number_at}
use Rattle.text.specs.Writing.{digits_in, decimal, field_text, fields_text, rest_text, line_text}
use Rattle.lists.specs.Names.{lines_in, list_after, list_number, listed}
use Rattle.lists.specs.Sheets.{same_marks, same_plan, file_number}
use Rattle.lists.specs.Drowned.{drowned, deepest_of, first_with, numbers_from, plan_from, accepted_from, numbers_text, refused_line, refused_lines, refused_many, drowned_line, drowned_text}
use Rattle.lists.specs.Tally.{number_with, tally_after, rooms_after, square_text, squares_text, sheets_text, tally_fine, tally_text}
use Rattle.lists.specs.Worked.{ListCases}
use Rattle.lists.proofs.WholeLaws.{whole-list}

pub list_cases : ListCases
unfolding pick every all_below refusal joined closed bytes_of is_byte is_digit digits_of value_from well_formed number_from number_at digits_in decimal field_text fields_text rest_text lines_in list_number list_after listed same_marks same_plan file_number drowned deepest_of first_with numbers_from plan_from accepted_from numbers_text refused_line refused_lines refused_many drowned_line drowned_text number_with tally_after rooms_after square_text squares_text sheets_text tally_fine tally_text placed line_text refused_text shape_fine
list_cases =
    record {
      two_names = refl;
      open_end = refl;
      bare_line = refl;
      no_name = refl;
      no_depth = refl;
      no_line = refl;
      two_fields = refl;
      nothing = refl;
      too_deep = refl;
      deep = refl;
      too_many = refl;
      both = refl;
      many = refl;
      same-plan = refl;
      other_rows = refl;
      other_columns = refl;
      turned = refl;
      other_mark = refl;
      other_closed = refl;
      not_opened_first = refl;
      not_opened_later = refl;
      reached = refl;
      not_reached = refl;
      dry = refl;
      deepest = refl;
      first-gave = refl;
      first_of_all = refl;
      never_wet = refl;
      squares = refl;
      refused = refl;
      all_run = refl;
      none_accepted = refl;
      empty_list = refl;
      noted_tally = refl;
      noted-rooms = refl;
      last_name = refl;
      full-tally = refl;
      full-rooms = refl;
      no_tally = refl;
      whole-list = whole-list;
    }
