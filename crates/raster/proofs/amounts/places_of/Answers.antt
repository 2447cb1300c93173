-- `raster::amounts::places_of` meets its contract: six or none.
-- Assumes nothing.
use mathlib.Core.Path.{sym, ap}
use native.Mathlib.Omega.{arith}
use Rattle.raster.specs.Amounts.{places_of}
use Rattle.raster.proofs.amounts.places_of.Goals as goal

pub returns-in-Metres : goal.returns-in-Metres
unfolding places_of
returns-in-Metres c = (sym (ap places_of c.in-Metres.is), omega arith)

pub returns-in-Whole : goal.returns-in-Whole
unfolding places_of
returns-in-Whole c = (sym (ap places_of c.in-Whole.is), omega arith)
