-- `display::watch::board_fine` meets its contract: a row or a column past the grid fails, then the square's mark, and then the mark's depth decides.
-- Assumes nothing.
use Rattle.display.proofs.BoardLaws.{board_no_row, board_no_column, board-closed, board_marked}
use Rattle.display.proofs.watch.board_fine.Goals as goal

pub returns-then-shape-board : goal.returns-then-shape-board
returns-then-shape-board c = board_no_row _ _ c.if-shape-board.true

pub returns-then-shape-board-2 : goal.returns-then-shape-board-2
returns-then-shape-board-2 c = board_no_column _ _ c.if-shape-board-2.true

pub returns-then-is_closed : goal.returns-then-is_closed
returns-then-is_closed c = board-closed _ _ c.square_at.ensures c.is_closed.ensures c.if-is_closed.true

pub returns : goal.returns
returns c = board_marked _ _ c.square_at.ensures c.is_closed.ensures c.if-shape-board.false c.if-shape-board-2.false c.if-is_closed.false
