-- `reckon::soaking::soak_by` meets its contract: the product of two numbers in range.
-- Assumes nothing.
use mathlib.Core.Path.{refl}
use Rattle.reckon.specs.Soaking.{soak_by}
use Rattle.reckon.proofs.soaking.soak_by.Goals as goal

pub returns : goal.returns
unfolding soak_by
returns c = refl
