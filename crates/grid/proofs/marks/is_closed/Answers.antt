-- `grid::marks::is_closed` meets its contract: it compares the mark.
-- Assumes nothing.
use borrow.Author.Rules.{rules}
use Rattle.grid.specs.Marks.{closed}
use Rattle.grid.proofs.marks.is_closed.Goals as goal

pub returns : goal.returns
unfolding closed
returns c = search rules
