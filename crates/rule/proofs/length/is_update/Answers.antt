-- `rule::length::is_update` meets its contract.
-- Assumes nothing.
use mathlib.Core.Path.{refl}
use Rattle.rule.specs.Length.{is_update}
use Rattle.rule.proofs.length.is_update.Goals as goal

pub returns : goal.returns
unfolding is_update
returns c = refl
