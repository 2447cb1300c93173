-- `raster::reading::corner_line` meets its contract: a header's line whose number is 0.
-- Assumes nothing.
use mathlib.Core.Path.{sym, ap, ◌∙◌}
use Rattle.raster.specs.Raster.{only_zero}
use Rattle.raster.proofs.HeadLaws.{only_none, only_kept}
use Rattle.raster.proofs.reading.corner_line.Goals as goal

pub returns-in_err-corner : goal.returns-in_err-corner
unfolding only_zero
returns-in_err-corner c = c.from_residual.ensures ∙ ap only_zero c.in_err-corner.ensures

pub returns-then-corner-ne0 : goal.returns-then-corner-ne0
returns-then-corner-ne0 c = sym (sym (ap only_zero c.in_ok-corner.ensures) ∙ only_none _ _ c.if-corner-ne0.true)

pub returns : goal.returns
returns c = sym (sym (ap only_zero c.in_ok-corner.ensures) ∙ only_kept _ _ c.if-corner-ne0.false)
