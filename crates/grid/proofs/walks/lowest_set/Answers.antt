-- `grid::walks::lowest_set` meets its contract: the zeros below the lowest set bit.
-- Assumes nothing.
use mathlib.Core.Path.{sym}
use Rattle.grid.proofs.RestLaws.{lowest_zeros}
use Rattle.grid.proofs.walks.lowest_set.Goals as goal

pub returns : goal.returns
returns c = sym (lowest_zeros c.args.mask)
