-- Document 02, #101, "Level boards on the wheel-house display": the boards' text, a line a board.
-- Assumes nothing.
use Rattle.std.specs.Prelude.{Bool, false, List, ℕ, zero, suc, ◌+◌, leb, length, get_or, Option, Some, None, is_some, option_map}
use Rattle.reckon.specs.Tests.{pick, first_failing}
use Rattle.text.specs.Reading.{number_at, with_number, rest_of_line, line_from}
use Rattle.text.specs.declared.reading.Fields.{Fields}
use Rattle.display.specs.Boards.{no_board, no_boards, with_board}
use Rattle.display.specs.declared.boards.Board.{Board}
use Rattle.display.specs.declared.boards.Boards.{Boards}
use Rattle.levels.specs.declared.lines.BoardLine.{BoardLine}

-- "Each has a square, a mark depth": row, column and mark, of which the row stands where other lines have their word
abbrev pub fields_after_row : ℕ
fields_after_row = 2

unfoldable pub as_board : ℕ → Fields → BoardLine
as_board row f =
    record {
      board = record { row = row; column = get_or f.values 0 0; mark = get_or f.values 1 0; highest = 0; reached = false; first = 0 };
      next = f.next;
    }

-- the line at p
unfoldable pub board_line : List ℕ → ℕ → Option BoardLine
board_line s p = with_number (number_at s p) None (λ row q. option_map (as_board row) (rest_of_line s q fields_after_row))

-- line k of the text, from 0
abbrev pub board_from : List ℕ → ℕ → Option BoardLine
board_from s k = board_line s (line_from s 0 k)

abbrev pub has_board : List ℕ → ℕ → Bool
has_board s k = is_some (board_from s k)

-- the board of a line, where it can be read
abbrev pub board_of : Option BoardLine → Board
board_of (Some line) = line.board
board_of None = no_board

-- how many lines can be read before the first that cannot (each has a byte or more)
unfoldable pub boards_read : List ℕ → ℕ
boards_read s = first_failing (length s) (has_board s)

-- the number of that line, from 1; 0 where the text ends before it
unfoldable pub bad_board : List ℕ → ℕ
bad_board s = pick (leb (length s) (line_from s 0 (boards_read s))) 0 (boards_read s + 1)

-- the boards of the first n lines, in their order
unfoldable pub boards_up_to : List ℕ → ℕ → Boards
boards_up_to s zero = no_boards
boards_up_to s (suc n) = with_board (boards_up_to s n) (board_of (board_from s n))

abbrev pub boards_in : List ℕ → Boards
boards_in s = boards_up_to s (boards_read s)
