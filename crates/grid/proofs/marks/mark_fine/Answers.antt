-- `grid::marks::mark_fine` meets its contract: a mark above 2 fails, an exit is judged by the rim, any other mark passes.
-- Assumes nothing.
use borrow.Author.Tests.{eq-eqb, ne_eqb, le-leb, lt-leb}
use Rattle.grid.specs.Marks.{exit, mark_fine}
use Rattle.grid.proofs.marks.mark_fine.Goals as goal

pub returns-then-mark-gt-EXIT : goal.returns-then-mark-gt-EXIT
unfolding mark_fine exit
returns-then-mark-gt-EXIT c = rw (lt-leb _ _ c.if-mark-gt-EXIT.true)

pub returns-then-mark-eq-EXIT : goal.returns-then-mark-eq-EXIT
unfolding mark_fine exit
returns-then-mark-eq-EXIT c = rw (le-leb _ _ c.if-mark-gt-EXIT.false, eq-eqb _ _ c.if-mark-eq-EXIT.true) c.on_rim.ensures

pub returns : goal.returns
unfolding mark_fine exit
returns c = rw (le-leb _ _ c.if-mark-gt-EXIT.false, ne_eqb _ _ c.if-mark-eq-EXIT.false)
