-- `moves::fill::worked_row` meets its contract: from the last eight columns down, what stands is the mask of the columns passed.
-- Assumes nothing.
use Prim.Native.Nat.{◌+◌, ◌-◌}
use native.Mathlib.Omega.{arith}
use Rattle.grid.proofs.MaskLaws.{row_none, rows_small, columns_more, mask_small}
use Rattle.moves.specs.Inner.Fill.{works_on}
use Rattle.moves.proofs.fill.worked_row.Goals as goal

-- ---- the answers

pub loop-ahead-init : goal.loop-ahead-init
loop-ahead-init c = row_none _ _ _

pub overflow_mul-mask : goal.overflow_mul-mask
overflow_mul-mask c = omega (arith, rows_small _ _ _ c.loop-ahead.invariant 8 c.loop-ahead-test.true c.requires.columns_high)

pub overflow_add-mask : goal.overflow_add-mask
overflow_add-mask c =
    let says = works_on c.args.walk c.args.depths.now c.args.lasts.now c.args.added.now in
    omega (
      arith,
      rows_small _ _ _ c.loop-ahead.invariant 8 c.loop-ahead-test.true c.requires.columns_high,
      mask_small says (c.args.first + (c.loop-ahead.ahead - 8)) 8,
      c.worked_eight.ensures,
    )

pub loop-ahead-preserved : goal.loop-ahead-preserved
loop-ahead-preserved c = columns_more _ _ _ c.loop-ahead.invariant 8 c.loop-ahead-test.true c.worked_eight.ensures
