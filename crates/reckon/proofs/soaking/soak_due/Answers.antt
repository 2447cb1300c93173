-- `reckon::soaking::soak_due` meets its contract: what is due by a clock never falls, and ground with no rate soaks nothing.
-- Assumes nothing.
use native.Mathlib.Omega.{arith}
use borrow.Author.Rules.{rules}
use Rattle.reckon.specs.Soaking.{soak_due}
use Rattle.reckon.proofs.SoakingLaws.{soak_mono, due_none}
use Rattle.reckon.proofs.soaking.soak_due.Goals as goal

pub returns-then-rate-eq0 : goal.returns-then-rate-eq0
returns-then-rate-eq0 c = due_none _ _ (omega arith)

pub overflow_sub-result : goal.overflow_sub-result
overflow_sub-result c = omega (arith, soak_mono c.args.rate c.requires.ordered)

pub returns : goal.returns
unfolding soak_due
returns c = search rules
