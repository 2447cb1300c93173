use Rattle.grid.specs.Masks.{is_wet}
use Rattle.grid.specs.Inner.Rows.{AtRow}
use Rattle.grid.proofs.MaskLaws.{Rowed}
use Rattle.grid.proofs.masks.mask_rows.Given as goal

abbrev pub invariant-loop-mask : goal.invariant-loop-mask
invariant-loop-mask l = AtRow l.fn.shape.rows l.columns l.mask-index l.first × Rowed (is_wet l.marks l.depths l.least) l.columns l.initial.rows l.rows l.mask-index
