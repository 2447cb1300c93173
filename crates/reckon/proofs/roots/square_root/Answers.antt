-- `reckon::roots::square_root` meets its contract: the digits of all places are raised, that of the ones last.
-- Assumes nothing.
use mathlib.Core.Path.{refl}
use Rattle.reckon.proofs.RootLaws.{zero_pow}
use Rattle.reckon.proofs.PlaceLaws.{squares}
use Rattle.reckon.proofs.roots.square_root.Goals as goal

pub with_digit-hundred_millions-requires : goal.with_digit-hundred_millions-requires
with_digit-hundred_millions-requires c = (record { power = squares; small = c.requires }, c.above_square_root-above.ensures, (8, refl), zero_pow _ squares)

pub with_digit-ten_millions-requires : goal.with_digit-ten_millions-requires
with_digit-ten_millions-requires c = (record { power = squares; small = c.requires }, c.above_square_root-above.ensures, (7, refl), c.with_digit-hundred_millions.ensures.fits)

pub with_digit-millions-requires : goal.with_digit-millions-requires
with_digit-millions-requires c = (record { power = squares; small = c.requires }, c.above_square_root-above.ensures, (6, refl), c.with_digit-ten_millions.ensures.fits)

pub with_digit-hundred_thousands-requires : goal.with_digit-hundred_thousands-requires
with_digit-hundred_thousands-requires c = (record { power = squares; small = c.requires }, c.above_square_root-above.ensures, (5, refl), c.with_digit-millions.ensures.fits)

pub with_digit-ten_thousands-requires : goal.with_digit-ten_thousands-requires
with_digit-ten_thousands-requires c = (record { power = squares; small = c.requires }, c.above_square_root-above.ensures, (4, refl), c.with_digit-hundred_thousands.ensures.fits)

pub with_digit-thousands-requires : goal.with_digit-thousands-requires
with_digit-thousands-requires c = (record { power = squares; small = c.requires }, c.above_square_root-above.ensures, (3, refl), c.with_digit-ten_thousands.ensures.fits)

pub with_digit-hundreds-requires : goal.with_digit-hundreds-requires
with_digit-hundreds-requires c = (record { power = squares; small = c.requires }, c.above_square_root-above.ensures, (2, refl), c.with_digit-thousands.ensures.fits)
