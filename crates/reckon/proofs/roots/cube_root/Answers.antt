-- `reckon::roots::cube_root` meets its contract: the digits of all places are raised, that of the ones last.
-- Assumes nothing.
use mathlib.Core.Path.{refl}
use native.Mathlib.Omega.{arith}
use Rattle.reckon.specs.Inner.RootSearch.{Place}
use Rattle.reckon.proofs.RootLaws.{zero_pow}
use Rattle.reckon.proofs.PlaceLaws.{cubes}
use Rattle.reckon.proofs.roots.cube_root.Goals as goal

tens : Place 3 10
tens = record { tens = (1, refl); most = omega arith }

pub with_digit-hundred_thousands-requires : goal.with_digit-hundred_thousands-requires
with_digit-hundred_thousands-requires c = (record { power = cubes; small = c.requires }, c.above_cube_root-above.ensures, (5, refl), zero_pow _ cubes)

pub with_digit-ten_thousands-requires : goal.with_digit-ten_thousands-requires
with_digit-ten_thousands-requires c = (record { power = cubes; small = c.requires }, c.above_cube_root-above.ensures, (4, refl), c.with_digit-hundred_thousands.ensures.fits)

pub with_digit-thousands-requires : goal.with_digit-thousands-requires
with_digit-thousands-requires c = (record { power = cubes; small = c.requires }, c.above_cube_root-above.ensures, (3, refl), c.with_digit-ten_thousands.ensures.fits)

pub with_digit-hundreds-requires : goal.with_digit-hundreds-requires
with_digit-hundreds-requires c = (record { power = cubes; small = c.requires }, c.above_cube_root-above.ensures, (2, refl), c.with_digit-thousands.ensures.fits)
