-- `grid::masks::row_mask` meets its contract: from the last column down, what stands is the mask of the columns passed.
-- Assumes nothing.
use native.Mathlib.Omega.{arith}
use Rattle.grid.proofs.MaskLaws.{row_none, row_small, bit_fits, row_more}
use Rattle.grid.proofs.masks.row_mask.Goals as goal

pub loop-column-init : goal.loop-column-init
loop-column-init c = row_none _ _ _

pub overflow_mul-mask : goal.overflow_mul-mask
overflow_mul-mask c = omega (arith, row_small _ _ _ c.loop-column.invariant c.loop-column-test.true c.requires.columns_high)

pub overflow_add-mask : goal.overflow_add-mask
overflow_add-mask c =
    let l = c.loop-column in
    omega (arith, bit_fits _ _ _ l.invariant _ c.loop-column-test.true c.requires.columns_high c.wet_digit.ensures)

pub loop-column-preserved : goal.loop-column-preserved
loop-column-preserved c = row_more _ _ _ c.loop-column.invariant c.loop-column-test.true c.wet_digit.ensures
