-- `rule::length::steps_over` meets its contract.
-- Assumes nothing.
use mathlib.Core.Path.{refl}
use Rattle.rule.specs.Bounds.{steps_over}
use Rattle.rule.proofs.length.steps_over.Goals as goal

pub returns : goal.returns
unfolding steps_over
returns c = refl
