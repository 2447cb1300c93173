-- `stands::naming::read_hatches` meets its contract: the places passed so far are named as their lines say.
-- Assumes nothing.
use native.Mathlib.Omega.{arith}
use Rattle.stands.proofs.NameLaws.{named_next, few_of}
use Rattle.stands.proofs.naming.read_hatches.Goals as goal

pub with_hatch-named-requires : goal.with_hatch-named-requires
with_hatch-named-requires c = (omega arith, omega (arith, few_of _ _ _ c.loop-hatch.invariant))

pub loop-hatch-preserved : goal.loop-hatch-preserved
loop-hatch-preserved c = named_next _ _ _ c.loop-hatch.invariant c.with_hatch-named.ensures
