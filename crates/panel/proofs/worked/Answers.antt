-- `panel::worked` meets its contract, as `reckon::roots::by_digits` does.
-- Assumes nothing.
use native.Mathlib.Omega.{arith}
use Rattle.reckon.proofs.PlaceLaws.{place_down, none_raised}
use Rattle.panel.proofs.worked.Goals as goal

pub loop-place-init : goal.loop-place-init
loop-place-init g c = (c.place_above-place.ensures.0, none_raised c.requires c.place_above-place.ensures.1)

pub raise_digit-root-requires : goal.raise_digit-root-requires
raise_digit-root-requires g c =
    let l = c.loop-place in
    (c.requires, place_down l.invariant.0 (omega arith), l.invariant.1.fits)

pub loop-place-preserved : goal.loop-place-preserved
loop-place-preserved g c = (place_down c.loop-place.invariant.0 (omega arith), c.raise_digit-root.ensures)
