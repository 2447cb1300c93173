-- `stands::laying::saved_from` meets its contract: what was read is handed on.
-- Assumes nothing.
use mathlib.Core.Path.{refl}
use Rattle.stands.specs.Laying.{saved_from}
use Rattle.stands.proofs.laying.saved_from.Goals as goal

pub returns : goal.returns
unfolding saved_from
returns c = refl
