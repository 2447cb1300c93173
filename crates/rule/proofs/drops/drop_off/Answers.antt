-- `rule::drops::drop_off` meets its contract: the product fits, being at most 10,000 · 100 · 100.
-- Assumes nothing.
use Rattle.rule.specs.Drops.{drop_off}
use Rattle.rule.proofs.drops.drop_off.Goals as goal

pub returns : goal.returns
unfolding drop_off
returns c = c.lesser.ensures
