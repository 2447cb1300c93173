-- `grid::walks::within_row` meets its contract: what is moved out beyond the 64 bits does not come back.
-- Assumes nothing.
use native.Mathlib.Omega.{arith}
use Rattle.grid.proofs.RestLaws.{within_by_shifts}
use Rattle.grid.proofs.walks.within_row.Goals as goal

pub returns : goal.returns
returns c = within_by_shifts c.args.mask c.args.columns _ (omega (arith, c.requires.1))
