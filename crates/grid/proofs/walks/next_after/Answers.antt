-- `grid::walks::next_after` meets its contract: the zeros of the mask moved beyond the column, counted on from there, held to the columns.
-- Assumes nothing.
use mathlib.Core.Path.{refl}
use native.Mathlib.Omega.{arith}
use Rattle.grid.proofs.WalkLaws.{after_by_zeros}
use Rattle.grid.proofs.walks.next_after.Goals as goal

pub returns : goal.returns
returns c = omega (arith, after_by_zeros c.args.mask c.args.column c.args.columns c.requires.0 c.requires.1 refl)
