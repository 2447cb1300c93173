-- `display::watch::refresh` meets its contract: every board passed so far is after the state, and the rest as it was.
-- Assumes nothing.
use Rattle.std.proofs.Common.{arith, sym}
use Rattle.std.proofs.lemmas.List.{length-take}
use Rattle.display.proofs.FirstLaws.{first_none, next_on, pass_more, pass_whole}
use Rattle.display.proofs.watch.refresh.Goals as goal

pub loop-board-init : goal.loop-board-init
loop-board-init c = sym (first_none _ _)

pub looked-requires : goal.looked-requires
looked-requires c = (next_on _ c.args.boards c.loop-board.board-index c.loop-board.invariant c.requires.0 (omega (arith, length-take c.args.boards.count c.args.boards.list)), c.requires.1)

pub loop-board-preserved : goal.loop-board-preserved
loop-board-preserved c = pass_more _ c.args.boards c.loop-board.board-index c.loop-board.invariant c.looked.ensures

pub returns : goal.returns
returns c = pass_whole _ c.args.boards c.loop-board.board-index c.loop-board.invariant (omega arith)
