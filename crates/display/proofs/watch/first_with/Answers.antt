-- `display::watch::first_with` meets its contract: the first clock stays.
-- Assumes nothing.
use mathlib.Core.Path.{sym, ◌∙◌}
use borrow.Author.Tests.{le-leb, lt-leb}
use Rattle.reckon.proofs.TestLaws.{pick_true, pick_false}
use Rattle.display.proofs.watch.first_with.Goals as goal

pub returns-then-board : goal.returns-then-board
returns-then-board c = sym (pick_true _ _ c.if-board.true)

pub returns-then-board-depth : goal.returns-then-board-depth
returns-then-board-depth c = sym (pick_false _ _ c.if-board.false ∙ pick_true _ _ (le-leb _ _ c.if-board-depth.true))

pub returns : goal.returns
returns c = sym (pick_false _ _ c.if-board.false ∙ pick_false _ _ (lt-leb _ _ c.if-board-depth.false))
