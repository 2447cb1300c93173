-- `stands::naming::none_named` meets its contract: no place is named.
-- Assumes nothing.
use mathlib.Core.Path.{refl}
use Rattle.stands.specs.Laying.{named_from}
use Rattle.stands.proofs.naming.none_named.Goals as goal

pub returns : goal.returns
unfolding named_from
returns c = λ s. refl
