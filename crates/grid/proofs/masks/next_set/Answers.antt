-- `grid::masks::next_set` meets its contract: the zeros below the lowest set digit, counted from the column, held to 64.
-- Assumes nothing.
use native.Mathlib.Omega.{arith}
use Rattle.grid.proofs.WalkLaws.{next_by_zeros, next_past}
use Rattle.grid.proofs.masks.next_set.Goals as goal

pub returns-then-column-eq-BITS : goal.returns-then-column-eq-BITS
returns-then-column-eq-BITS c = next_past _ _ c.if-column-eq-BITS.true

pub returns : goal.returns
returns c = omega (arith, next_by_zeros c.args.mask c.args.column c.requires)
