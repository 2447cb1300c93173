-- `moves::fill::worked_below` meets its contract: from the last column down, what stands is the mask of the columns passed.
-- Assumes nothing.
use native.Mathlib.Omega.{arith}
use Rattle.grid.proofs.MaskLaws.{row_small, bit_fits, row_more}
use Rattle.moves.proofs.fill.worked_below.Goals as goal

-- ---- the answers

pub overflow_mul-mask : goal.overflow_mul-mask
overflow_mul-mask c = omega (arith, row_small _ _ _ c.loop-ahead.invariant c.loop-ahead-test.true c.requires.0.columns_high)

pub overflow_add-mask : goal.overflow_add-mask
overflow_add-mask c = omega (arith, bit_fits _ _ _ c.loop-ahead.invariant _ c.loop-ahead-test.true c.requires.0.columns_high c.worked_digit.ensures)

pub loop-ahead-preserved : goal.loop-ahead-preserved
loop-ahead-preserved c = row_more _ _ _ c.loop-ahead.invariant c.loop-ahead-test.true c.worked_digit.ensures
