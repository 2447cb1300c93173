-- `sight::all_arrows::no_arrow` meets its contract: both speeds are 0.
-- Assumes nothing.
use mathlib.Core.Path.{refl}
use lib.Ieee as Ieee
use Rattle.sight.specs.AllArrows.{arrow_in}
use Rattle.sight.proofs.all_arrows.no_arrow.Goals as goal

pub returns : goal.returns
unfolding Ieee.of_bits arrow_in
returns c = refl
