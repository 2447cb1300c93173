-- `levels::printing::put_levels` meets its contract: the lines so far stand at the room's start.
-- Assumes nothing.
use mathlib.Core.Path.{refl}
use Prim.Native.Nat.{◌<◌}
use native.Mathlib.Omega.{arith}
use Rattle.display.specs.Boards.{most_boards}
use Rattle.levels.proofs.LevelLaws.{levels_none, level-room, levels_more, levels_listed}
use Rattle.levels.proofs.printing.put_levels.Goals as goal

pub loop-board-init : goal.loop-board-init
loop-board-init c = levels_none _ _

pub put_level-next-requires : goal.put_level-next-requires
put_level-next-requires c =
    let few : c.loop-board.board-index < most_boards = omega (arith, c.requires.0.few, c.requires.0.many) in
    level-room _ c.loop-board.board-index (omega (arith, few)) c.requires.1 c.loop-board.invariant few

pub loop-board-preserved : goal.loop-board-preserved
loop-board-preserved c =
    let few : c.loop-board.board-index < most_boards = omega (arith, c.requires.0.few, c.requires.0.many) in
    levels_more _ c.loop-board.board-index (omega (arith, few)) c.requires.1 c.loop-board.invariant few refl c.put_level-next.ensures

pub returns : goal.returns
returns c = levels_listed c.args.boards c.requires.0 (omega arith) c.loop-board.invariant
