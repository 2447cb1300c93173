-- `display::watch::boards_fine` meets its contract: not over sixteen, and then each of those that are counted.
-- Assumes nothing.
use Rattle.std.proofs.Common.{◌∙◌, arith, rules, sym, take, tests}
use Rattle.std.proofs.lemmas.Iterator.{YieldsList-from_slice}
use Rattle.std.proofs.lemmas.Iterator.Search.{all_from_yields_List}
use borrow.Author.Tests.{lt-leb}
use Rattle.reckon.proofs.TestLaws.{every_fails}
use Rattle.ledger.specs.Runs.{plan}
use Rattle.display.specs.Boards.{board_fine, boards_fine}
use Rattle.display.proofs.BoardLaws.{counted_fine}
use Rattle.display.proofs.watch.boards_fine.Goals as goal

pub returns-then-boards-gt-MOST_BOARDS : goal.returns-then-boards-gt-MOST_BOARDS
unfolding boards_fine
returns-then-boards-gt-MOST_BOARDS c = sym (every_fails _ 0 (lt-leb _ _ c.if-boards-gt-MOST_BOARDS.true))

pub returns : goal.returns
returns c =
    all_from_yields_List (board_fine (plan c.args.shape c.args.marks.now)) _ _ _ c.all.ensures.ran
    (YieldsList-from_slice (take c.args.boards.count c.args.boards.list) (cc)) (λ x b q k. search (rules, tests))
    ∙ counted_fine _ c.args.boards (omega arith) (omega arith)
