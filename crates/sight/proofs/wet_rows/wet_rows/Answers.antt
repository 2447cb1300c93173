-- `sight::wet_rows::wet_rows` meets its contract: refused, nothing is written; else the masks are, and their ones are counted.
-- Assumes nothing.
use mathlib.Core.Path.{sym, ◌∙◌}
use native.Mathlib.Omega.{arith}
use Rattle.grid.proofs.MaskLaws.{masks_long}
use Rattle.sight.proofs.WetLaws.{wet_refused, wet_counted, wet_lent}
use Rattle.sight.proofs.wet_rows.wet_rows.Goals as goal

pub returns-then-refused-ne0 : goal.returns-then-refused-ne0
returns-then-refused-ne0 c = wet_refused _ _ _ _ c.wet_refusal-refused.ensures c.if-refused-ne0.true

pub mask_rows-requires : goal.mask_rows-requires
mask_rows-requires c = wet_lent _ _ _ _ c.wet_refusal-refused.ensures c.if-refused-ne0.false

pub ones_in-requires : goal.ones_in-requires
ones_in-requires c =
    omega (
      arith,
      masks_long _ _ _ _ c.mask_rows.ensures,
      (wet_lent _ _ _ c.args.rows.now
          c.wet_refusal-refused.ensures c.if-refused-ne0.false).fine.rows_high,
    )

pub shape_of-rows : goal.shape_of-rows
shape_of-rows c =
    masks_long _ _ _ _ c.mask_rows.ensures ∙ sym
    (wet_lent _ _ _ c.args.rows.now c.wet_refusal-refused.ensures c.if-refused-ne0.false).rows_long

pub returns : goal.returns
returns c = wet_counted _ _ _ _ c.wet_refusal-refused.ensures c.if-refused-ne0.false c.mask_rows.ensures c.ones_in.ensures
