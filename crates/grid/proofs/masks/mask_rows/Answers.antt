-- `grid::masks::mask_rows` meets its contract: row after row, what is filled so far is the masks of the rows passed.
-- Assumes nothing.
use native.Mathlib.Omega.{arith}
use Rattle.grid.proofs.SquareLaws.{rows_begin, row_next}
use Rattle.grid.proofs.MaskLaws.{rowed_none, rowed_more, masks_whole}
use Rattle.grid.proofs.masks.mask_rows.Goals as goal

pub loop-mask-init : goal.loop-mask-init
loop-mask-init c = (rows_begin _ _, rowed_none _ _ _)

pub loop-mask-preserved : goal.loop-mask-preserved
loop-mask-preserved c = (
  row_next c.loop-mask.invariant.0 (omega arith),
  rowed_more _ _ _ _ c.loop-mask.invariant.1 c.loop-mask.invariant.0.begins (omega arith) c.row_mask.ensures,
)

pub returns : goal.returns
returns c = masks_whole _ _ _ _ _ _ c.requires.rows_long (omega arith) c.loop-mask.invariant.1
