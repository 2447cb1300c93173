-- Document 02, #101, "Level boards on the wheel-house display": what `boards` prints of a sheet's text and a boards' text.
-- Assumes nothing.
use Rattle.std.specs.Prelude.{List, ℕ, eqb, leb, length}
use Rattle.reckon.specs.Tests.{pick}
use Rattle.flood.specs.Run.{Ended}
use Rattle.sheet.specs.Sheet.{Rooms, plan_in, given_in, start_in}
use Rattle.sheet.specs.declared.reading.Heading.{Heading}
use Rattle.sheet.specs.declared.reading.Sheet.{Sheet}
use Rattle.answer.specs.Printed.{refused_text}
use Rattle.programs.specs.Reading.{sheet_within}
use Rattle.programs.specs.Program.{most_text, program_rooms, sheet_printed}
use Rattle.display.specs.Boards.{listed}
use Rattle.display.specs.Watch.{watched_to, boards_after}
use Rattle.display.specs.declared.boards.Board.{Board}
use Rattle.display.specs.declared.boards.Boards.{Boards}
use Rattle.levels.specs.Lines.{bad_board, boards_in}
use Rattle.levels.specs.Levels.{watch_text}

-- the fresh run of a sheet to its end, by what rooms hold, with boards
module _ (h : Heading) (held : Rooms) (boards : Boards) where
  abbrev pub sheet_watched : Ended
  sheet_watched =
      watched_to (plan_in h.shape h.rules held) (given_in h.shape h.rules held) h.end (start_in h.shape h.rules held)
      boards.count (listed boards)

  abbrev pub sheet_boards : List Board
  sheet_boards =
      boards_after (plan_in h.shape h.rules held) (given_in h.shape h.rules held) h.end (start_in h.shape h.rules held)
      boards.count (listed boards)

-- the boards' text first: a line that cannot be read is 12 with its number; then the run, "1 to 6" and "13, after 6 and before any step"
unfoldable pub level_text_of : Heading → Rooms → List ℕ → List ℕ
level_text_of h held b =
    pick (eqb (bad_board b) 0) (watch_text (sheet_watched h held (boards_in b)) (sheet_boards h held (boards_in b))) (refused_text 12 (bad_board b))

-- the sheet before it, as its reader answers
unfoldable pub level_sheet_text : List ℕ → List ℕ → Sheet → List ℕ
level_sheet_text s b a = sheet_printed (λ h held. level_text_of h held b) s a

-- with `meadow`'s limits: a text of more bytes is 12, line 0, before all else
unfoldable pub boards_text : List ℕ → List ℕ → List ℕ
boards_text s b = pick (leb (length b) most_text) (level_sheet_text s b (sheet_within most_text s program_rooms)) (refused_text 12 0)
