-- What the functions inside the crate give one another: a text of boards as it is read, lines of boards with room for the longest, and the run
-- of a sheet with its boards.
-- Assumes nothing.
use Rattle.std.specs.Prelude.{◌≡◌, List, [], ℕ, ◌*◌, ◌≤◌, length}
use Rattle.ledger.specs.Runs.{world}
use Rattle.flood.specs.Run.{ended}
use Rattle.text.specs.Writing.{Wrote}
use Rattle.sheet.specs.Sheet.{Rooms}
use Rattle.sheet.specs.declared.reading.Heading.{Heading}
use Rattle.display.specs.Boards.{most_boards, listed}
use Rattle.display.specs.declared.boards.Board.{Board}
use Rattle.display.specs.declared.boards.Boards.{Boards}
use Rattle.display.specs.declared.boards.Shown.{Shown}
use Rattle.levels.specs.Lines.{bad_board, boards_in}
use Rattle.levels.specs.declared.lines.BoardsFound.{BoardsFound}
use Rattle.levels.specs.Levels.{level_text, levels_text, watch_text}
use Rattle.levels.specs.Program.{sheet_watched, sheet_boards}

-- the bytes that always suffice for a board's line, and for all of them
abbrev pub level_most : ℕ
level_most = 111

abbrev pub levels_most : ℕ
levels_most = level_most * most_boards

-- all that are counted are in the list
pub record AllListed (bs : Boards) : Type 0 where
  pub few : bs.count ≤ most_boards
  pub many : length (listed bs) ≡ bs.count

pub record PutLevel (b : Board) (at : ℕ) (old new : List ℕ) (r : ℕ) : Type 0 where
  pub wrote : Wrote (level_text b) at old new r
  pub fits : length (level_text b) ≤ level_most

pub record PutLevels (boards : List Board) (old new : List ℕ) (r : ℕ) : Type 0 where
  pub wrote : Wrote (levels_text boards) 0 old new r
  pub fits : length (levels_text boards) ≤ levels_most

-- what is printed goes by what the run's answer tells and by the boards
abbrev pub shown_text : Shown → List ℕ
shown_text a = watch_text (ended a.ran.refused a.ran.steps (world [] [] [] a.ran.run)) (listed a.boards)

-- number, steps and run value of the run of a sheet, and its boards; over sixteen are refused
pub record SheetShown (h : Heading) (held : Rooms) (boards : Boards) (a : Shown) : Type 0 where
  pub number_is : a.ran.refused ≡ (sheet_watched h held boards).number
  pub steps_are : a.ran.steps ≡ (sheet_watched h held boards).steps
  pub run_is : a.ran.run ≡ (sheet_watched h held boards).world.run
  pub boards_are : listed a.boards ≡ sheet_boards h held boards
  pub all_listed : a.ran.refused ≡ 0 → AllListed a.boards

-- all that the text says
abbrev pub boards_found : List ℕ → BoardsFound
boards_found s = record { bad = bad_board s; boards = boards_in s }
