-- `stands::putting::put_hatch` meets its contract: a hatch that is not named has no line.
-- Assumes nothing.
use Rattle.stands.proofs.PutLaws.{hatch_none, hatch-named}
use Rattle.stands.proofs.putting.put_hatch.Goals as goal

pub returns-then-not-named-hatch : goal.returns-then-not-named-hatch
returns-then-not-named-hatch c = hatch_none _ _ _ _ (c.if-not-named-hatch.true)

pub returns : goal.returns
returns c = hatch-named _ _ _ (c.if-not-named-hatch.false) c.put_named.ensures
