-- `rule::length::duration_for` meets its contract: the time to the next multiple of U is never below 0.
-- Assumes nothing.
use Rattle.rule.specs.Length.{duration_for}
use Rattle.rule.proofs.length.duration_for.Goals as goal

pub returns : goal.returns
unfolding duration_for
returns c = c.lesser.ensures
