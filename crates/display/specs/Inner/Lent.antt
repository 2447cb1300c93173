-- A lent list of boards, by value and back.
-- Assumes nothing.
use Rattle.std.specs.Prelude.{List, [], ◌∷◌, ◌++◌, ℕ, suc, ltb, length, get_or, replicate, take}
use Rattle.reckon.specs.Tests.{pick}
use Rattle.display.specs.Boards.{most_boards, no_board}
use Rattle.display.specs.declared.boards.Board.{Board}
use Rattle.display.specs.declared.boards.Boards.{Boards}

-- how many there are, and the first sixteen of them; any board where there are fewer
abbrev pub held_of : List Board → Boards
held_of boards = record { count = length boards; list = take most_boards (boards ++ replicate most_boards no_board) }

-- the board at a place; past the sixteenth the one that stands there
unfoldable pub board_at : Boards → ℕ → Board → Board
board_at held place board = pick (ltb place most_boards) (get_or held.list place no_board) board

-- so at every place of a list that begins at one
unfoldable pub back_from : Boards → ℕ → List Board → List Board
back_from held place [] = []
back_from held place (board ∷ rest) = board_at held place board ∷ back_from held (suc place) rest

abbrev pub back_in : Boards → List Board → List Board
back_in held boards = back_from held 0 boards
