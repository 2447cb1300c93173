use Rattle.grid.specs.Masks.{is_wet}
use Rattle.grid.proofs.MaskLaws.{Built}
use Rattle.grid.proofs.masks.row_mask.Given as goal

abbrev pub invariant-loop-column : goal.invariant-loop-column
invariant-loop-column l = Built (is_wet l.marks l.depths l.least) l.first l.columns l.column l.mask
