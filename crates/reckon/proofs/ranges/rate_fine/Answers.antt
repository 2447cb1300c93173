-- `reckon::ranges::rate_fine` meets its contract: the answer is the test.
-- Assumes nothing.
use mathlib.Core.Path.{refl}
use Rattle.reckon.specs.Ranges.{rate_fine}
use Rattle.reckon.proofs.ranges.rate_fine.Goals as goal

pub returns : goal.returns
unfolding rate_fine
returns c = refl
