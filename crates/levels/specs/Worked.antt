-- Document 02, #101, worked by hand: a board's line read and printed, every number another one, and whole texts.
-- Assumes nothing.
use Rattle.std.specs.Prelude.{◌≡◌, Bool, true, false, [], ◌∷◌, ℕ, take, Some, None}
use Rattle.ledger.specs.Runs.{world}
use Rattle.flood.specs.Run.{Ended, ended}
use Rattle.text.specs.Bytes.{bytes_of}
use Rattle.sheet.specs.Sheet.{Rooms}
use Rattle.sheet.specs.declared.reading.Heading.{Heading}
use Rattle.display.specs.declared.boards.Board.{Board}
use Rattle.levels.specs.Lines.{board_line, bad_board, boards_in}
use Rattle.levels.specs.Levels.{level_text, watch_text}
use Rattle.levels.specs.Program.{level_text_of, boards_text}

abbrev board : ℕ → ℕ → ℕ → ℕ → Bool → ℕ → Board
board row column mark highest reached first =
    record { row = row; column = column; mark = mark; highest = highest; reached = reached; first = first }

-- a board as its line names it
abbrev named : ℕ → ℕ → ℕ → Board
named row column mark = board row column mark 0 false 0

-- a run of six steps up to a clock, refused with a number or not
abbrev run : ℕ → Ended
run number = ended number 6 (world [] [] [] (record { clock = 9_000; length = 500; outflow = 21; kept = 1; newest = 0; soaked = 22 }))

pub record LevelCases : Type 0 where
  -- a line's fields in their order
  pub a-line : board_line (bytes_of "3\t7\t2500\n") 0 ≡ Some (record { board = named 3 7 2_500; next = 9 })
  pub a_field-short : board_line (bytes_of "3\t7\n") 0 ≡ None
  pub a_field_more : board_line (bytes_of "3\t7\t2500\t1\n") 0 ≡ None
  pub a_space : board_line (bytes_of "3 7\t2500\n") 0 ≡ None
  pub no_newline : board_line (bytes_of "3\t7\t2500") 0 ≡ None
  -- a text's lines in their order; the first that cannot be read
  pub two_count : (boards_in (bytes_of "1\t2\t30\n4\t5\t60\n")).count ≡ 2
  pub two_listed : take 2 (boards_in (bytes_of "1\t2\t30\n4\t5\t60\n")).list ≡ named 1 2 30 ∷ named 4 5 60 ∷ []
  pub two_fine : bad_board (bytes_of "1\t2\t30\n4\t5\t60\n") ≡ 0
  pub none : (boards_in []).count ≡ 0
  pub none_fine : bad_board [] ≡ 0
  pub blank : bad_board (bytes_of "1\t2\t30\n\n4\t5\t60\n") ≡ 2
  pub last_cut : bad_board (bytes_of "1\t2\t30\n4\t5\t60") ≡ 2
  -- a board's line as it is printed
  pub reached : level_text (board 3 7 2_500 3_100 true 64_000) ≡ bytes_of "board\t3\t7\t2500\t3100\t64000\n"
  pub at-start : level_text (board 3 7 2_500 3_100 true 0) ≡ bytes_of "board\t3\t7\t2500\t3100\t0\n"
  pub never : level_text (board 3 7 2_500 2_400 false 0) ≡ bytes_of "board\t3\t7\t2500\t2400\t-\n"
  -- a run's boards, and a refused run's
  pub whole :
      watch_text (run 0) (board 3 7 2_500 3_100 true 64_000 ∷ board 1 4 800 790 false 0 ∷ [])
      ≡ bytes_of "board\t3\t7\t2500\t3100\t64000\nboard\t1\t4\t800\t790\t-\nsteps\t6\nclock\t9000\n"
  pub no-boards : watch_text (run 0) [] ≡ bytes_of "steps\t6\nclock\t9000\n"
  pub refused : watch_text (run 13) (board 3 7 2_500 3_100 true 64_000 ∷ []) ≡ bytes_of "refused\t13\t0\n"
  -- the sheet before the boards' text, and that before the run, whatever the sheet says
  pub sheet_first : boards_text (bytes_of "grid\t0\t1\t1\n") (bytes_of "\n") ≡ bytes_of "refused\t1\t0\n"
  pub then_boards : (h : Heading) (held : Rooms) → level_text_of h held (bytes_of "0\t0\t5\n\n") ≡ bytes_of "refused\t12\t2\n"
