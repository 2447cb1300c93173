-- `display::watch::looked` meets its contract: the depth is that of the board's square, and a first state finds the board cleared.
-- Assumes nothing.
use mathlib.Core.Path.{refl}
use Rattle.display.proofs.BoardLaws.{looked-first, looked_later}
use Rattle.display.proofs.watch.looked.Goals as goal

pub returns-then-starting : goal.returns-then-starting
returns-then-starting c = looked-first _ _ _ _ _ c.square_at-square.ensures refl c.if-starting.true c.clear.ensures c.seen.ensures

pub returns : goal.returns
returns c = looked_later _ _ _ _ _ c.square_at-square.ensures refl c.if-starting.false c.seen-2.ensures
