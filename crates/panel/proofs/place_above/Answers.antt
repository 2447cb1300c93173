-- `panel::place_above` meets its contract, as `reckon::roots::place_above` does.
-- Assumes nothing.
use mathlib.Core.Path.{sym, ◌∙◌}
use native.Mathlib.Omega.{arith}
use borrow.Author.Tests.{leb-true}
use Rattle.reckon.proofs.RootLaws.{le_of_pow}
use Rattle.reckon.proofs.PlaceLaws.{ten_pos, ones, place_up}
use Rattle.panel.proofs.place_above.Goals as goal

pub loop-place-init : goal.loop-place-init
loop-place-init g c = ones c.requires.power

pub overflow_mul-place : goal.overflow_mul-place
overflow_mul-place g c =
    let up = place_up c.requires c.loop-place.invariant (leb-true _ _ (sym c.still_fits.ensures ∙ c.loop-place-test.true)) in
    omega (arith, le_of_pow _ c.requires.power up.most)

pub loop-place-smaller : goal.loop-place-smaller
loop-place-smaller g c =
    let up = place_up c.requires c.loop-place.invariant (leb-true _ _ (sym c.still_fits.ensures ∙ c.loop-place-test.true)) in
    omega (arith, le_of_pow _ c.requires.power up.most, ten_pos c.loop-place.invariant.tens)

pub loop-place-preserved : goal.loop-place-preserved
loop-place-preserved g c = place_up c.requires c.loop-place.invariant (leb-true _ _ (sym c.still_fits.ensures ∙ c.loop-place-test.true))
