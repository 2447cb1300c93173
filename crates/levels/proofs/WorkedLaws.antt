-- The cases of the boards' text and of what is printed, by computation.
-- Assumes nothing.
use mathlib.Core.Path.{refl}
use Rattle.reckon.specs.Tests.{pick, every, all_below, first_failing, refusal}
use Rattle.reckon.specs.Lists.{tabulate, joined}
use Rattle.reckon.specs.Ranges.{side_fine}
use Rattle.grid.specs.Squares.{shape_fine}
use Rattle.text.specs.Bytes.{bytes_of}
use Rattle.text.specs.Reading.{is_byte, word_at, is_digit, digits_of, value_from, well_formed, number_from, number_at, field_at, before, read_fields, line_ended, read_rest, read_line, padded, as_fields, line_length, next_line, line_from}
use Rattle.text.specs.Writing.{digits_in, decimal, field_text, fields_text, rest_text, line_text}
use Rattle.sheet.specs.Lines.{as_grid, grid_line}
use Rattle.sheet.specs.Sheet.{rooms_fine, sheet_of}
use Rattle.answer.specs.Printed.{refused_text}
use Rattle.programs.specs.Reading.{sheet_within}
use Rattle.display.specs.Boards.{with_board}
use Rattle.levels.specs.Lines.{as_board, board_line, boards_read, bad_board, boards_up_to}
use Rattle.levels.specs.Levels.{first_text, level_text, levels_text, counts_text, watch_text}
use Rattle.levels.specs.Program.{level_text_of, level_sheet_text, boards_text}
use Rattle.levels.specs.Worked.{LevelCases}

pub level_cases : LevelCases
unfolding pick every all_below first_failing refusal tabulate joined side_fine shape_fine bytes_of is_byte word_at is_digit digits_of value_from well_formed number_from number_at field_at before read_fields line_ended read_rest read_line padded as_fields line_length next_line line_from digits_in decimal field_text fields_text rest_text line_text as_grid grid_line rooms_fine sheet_of refused_text sheet_within with_board as_board board_line boards_read bad_board boards_up_to first_text level_text levels_text counts_text watch_text level_text_of level_sheet_text boards_text
level_cases =
    record {
      a-line = refl;
      a_field-short = refl;
      a_field_more = refl;
      a_space = refl;
      no_newline = refl;
      two_count = refl;
      two_listed = refl;
      two_fine = refl;
      none = refl;
      none_fine = refl;
      blank = refl;
      last_cut = refl;
      reached = refl;
      at-start = refl;
      never = refl;
      whole = refl;
      no-boards = refl;
      refused = refl;
      sheet_first = refl;
      then_boards = λ h held. refl;
    }
