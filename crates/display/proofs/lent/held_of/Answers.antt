-- `display::lent::held_of` meets its contract: what is kept after so many boards is what the list keeps of them.
-- Assumes nothing.
use Rattle.std.proofs.Common.{◌≡◌, ◌<◌, ◌^◌, ◌∙◌, ap, arith, length, slice_index_or}
use Rattle.display.specs.Boards.{no_board, with_board}
use Rattle.display.specs.declared.boards.Boards.{Boards}
use Rattle.display.proofs.LentLaws.{held_none, held_more, held_fits, held_all}
use Rattle.display.proofs.lent.held_of.Goals as goal

pub loop-board-init : goal.loop-board-init
loop-board-init c = c.no_boards-held.ensures ∙ held_none c.args.boards.now

pub with_board-held-requires : goal.with_board-held-requires
with_board-held-requires c =
    let small : length c.args.boards.now < 2 ^ 64 = omega arith in
    let fits = held_fits c.args.boards.now c.loop-board-test.true small in
    rw c.loop-board.invariant fits

pub loop-board-preserved : goal.loop-board-preserved
loop-board-preserved c =
    c.with_board-held.ensures
    ∙ (ap (λ (h : Boards). with_board h (slice_index_or c.args.boards.now c.loop-board.board-index no_board)) c.loop-board.invariant
    ∙ held_more c.args.boards.now c.loop-board.board-index)

pub returns : goal.returns
returns c =
    let at_end : c.loop-board.board-index ≡ length c.args.boards.now = omega arith in
    c.loop-board.invariant ∙ (rw at_end (held_all c.args.boards.now))
