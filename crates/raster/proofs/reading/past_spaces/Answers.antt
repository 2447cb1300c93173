-- `raster::reading::past_spaces` meets its contract: from the position so far on the same spaces end at the same place.
-- Assumes nothing.
use mathlib.Core.Path.{refl, sym, ◌∙◌}
use native.Mathlib.Omega.{arith}
use Rattle.text.proofs.ReadingLaws.{byte_within}
use Rattle.raster.specs.Raster.{space}
use Rattle.raster.proofs.SpaceLaws.{space_more, space_stop}
use Rattle.raster.proofs.reading.past_spaces.Goals as goal

pub loop-p-init : goal.loop-p-init
loop-p-init c = refl

pub overflow_add-p : goal.overflow_add-p
overflow_add-p c = omega (arith, byte_within _ _ space (sym c.byte_is.ensures ∙ c.loop-p-test.true))

pub loop-p-smaller : goal.loop-p-smaller
loop-p-smaller c = omega (arith, byte_within _ _ space (sym c.byte_is.ensures ∙ c.loop-p-test.true))

pub loop-p-preserved : goal.loop-p-preserved
loop-p-preserved c = space_more _ _ (sym c.byte_is.ensures ∙ c.loop-p-test.true) ∙ c.loop-p.invariant

pub returns : goal.returns
returns c = sym (space_stop _ _ (sym c.byte_is.ensures ∙ c.loop-p-test.false)) ∙ c.loop-p.invariant
