-- `stands::naming::with_hatch` meets its contract: the next line decides.
-- Assumes nothing.
use Rattle.stands.proofs.NameLaws.{hatch_unfound, hatch_other, hatch_here}
use Rattle.stands.proofs.naming.with_hatch.Goals as goal

pub returns-in_default : goal.returns-in_default
returns-in_default c = hatch_unfound _ _ _ c.in_default.ensures

pub returns-then-values-hatch : goal.returns-then-values-hatch
returns-then-values-hatch c = hatch_other _ _ _ c.in-Some.ensures c.if-values-hatch.true

pub returns : goal.returns
returns c = hatch_here _ _ _ c.in-Some.ensures c.if-values-hatch.false
