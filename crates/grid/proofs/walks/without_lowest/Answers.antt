-- `grid::walks::without_lowest` meets its contract: the number and the one below it share the bits above the lowest set one.
-- Assumes nothing.
use native.Mathlib.Omega.{arith}
use Rattle.grid.proofs.RestLaws.{without_by_and}
use Rattle.grid.proofs.walks.without_lowest.Goals as goal

pub returns : goal.returns
returns c = without_by_and c.args.mask c.requires (omega (arith, c.well_formed))
