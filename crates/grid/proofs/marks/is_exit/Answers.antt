-- `grid::marks::is_exit` meets its contract: it compares the mark.
-- Assumes nothing.
use borrow.Author.Rules.{rules}
use Rattle.grid.specs.Marks.{exit}
use Rattle.grid.proofs.marks.is_exit.Goals as goal

pub returns : goal.returns
unfolding exit
returns c = search rules
