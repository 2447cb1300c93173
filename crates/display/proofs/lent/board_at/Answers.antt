-- `display::lent::board_at` meets its contract: a place below the sixteenth, or one past it.
-- Assumes nothing.
use mathlib.Core.Path.{sym}
use Rattle.display.proofs.LentLaws.{board_below, board_past}
use Rattle.display.proofs.lent.board_at.Goals as goal

pub returns-then-place-lt-MOST_BOARDS : goal.returns-then-place-lt-MOST_BOARDS
returns-then-place-lt-MOST_BOARDS c = sym (board_below _ _ _ c.if-place-lt-MOST_BOARDS.true)

pub returns : goal.returns
returns c = sym (board_past _ _ _ c.if-place-lt-MOST_BOARDS.false)
