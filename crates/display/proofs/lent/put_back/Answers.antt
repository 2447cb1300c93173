-- `display::lent::put_back` meets its contract: the list is the one with so many boards put back.
-- Assumes nothing.
use Rattle.std.proofs.Common.{◌<◌, ◌≤◌, ◌∙◌, ap, arith, List, length, slice_set, slice_index_or}
use Rattle.display.specs.Boards.{no_board}
use Rattle.display.specs.Inner.Lent.{board_at}
use Rattle.display.specs.declared.boards.Board.{Board}
use Rattle.display.proofs.LentLaws.{back_none, back_more, back_all}
use Rattle.display.proofs.lent.put_back.Goals as goal

pub loop-i-init : goal.loop-i-init
loop-i-init c = back_none c.args.held c.args.boards.now

pub loop-i-preserved : goal.loop-i-preserved
loop-i-preserved c =
    let less : c.loop-i.i < length c.args.boards.now = omega arith in
    ap (λ (l : List Board). slice_set l c.loop-i.i c.board_at.result) c.loop-i.invariant
    ∙ back_more c.args.held c.loop-i.i c.args.boards.now less
    (c.board_at.ensures
    ∙ ap (λ (l : List Board). board_at c.args.held c.loop-i.i (slice_index_or l c.loop-i.i no_board)) c.loop-i.invariant)

pub returns : goal.returns
returns c =
    let past : length c.args.boards.now ≤ c.loop-i.i = omega arith in
    c.loop-i.invariant ∙ back_all c.args.held c.loop-i.i c.args.boards.now past
