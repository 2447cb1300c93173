-- `checks::fresh::fresh_run` meets its contract: it is the definition's.
-- Assumes nothing.
use mathlib.Core.Path.{refl}
use Rattle.checks.specs.Fresh.{fresh_run}
use Rattle.checks.proofs.fresh.fresh_run.Goals as goal

pub returns : goal.returns
unfolding fresh_run
returns c = refl
