-- `rule::low_roots::top_digit` meets its contract: the zeros before the highest digit and the place of it make 63.
-- Assumes nothing.
use mathlib.Core.Path.{refl}
use Rattle.rule.proofs.LowRootLaws.{top_is}
use Rattle.rule.proofs.low_roots.top_digit.Goals as goal

pub returns : goal.returns
returns c = top_is c.requires c.ranges.n.fits refl
