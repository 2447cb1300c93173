-- `display::boards::with_board` meets its contract: stored where there is room, and counted.
-- Assumes nothing.
use Rattle.display.proofs.BoardLaws.{with_room, with_none}
use Rattle.display.proofs.boards.with_board.Goals as goal

pub returns-then-count-ge-MOST_BOARDS : goal.returns-then-count-ge-MOST_BOARDS
returns-then-count-ge-MOST_BOARDS c = with_none _ _ c.if-count-ge-MOST_BOARDS.true

pub returns : goal.returns
returns c = with_room _ _ c.if-count-ge-MOST_BOARDS.false
