-- `checks::refusals::grounds_fine` meets its contract: every square passed so far was fine.
-- Assumes nothing.
use mathlib.Core.Path.{ap}
use mathlib.Core.Bool.{not}
use mathlib.Core.Path.{sym}
use native.Mathlib.Omega.{arith}
use Rattle.reckon.proofs.TestLaws.{all_none, all_more, all_fails, all_whole}
use Rattle.checks.specs.Refusals.{grounds_fine}
use Rattle.checks.proofs.CheckLaws.{fails_by, holds_by}
use Rattle.checks.proofs.refusals.grounds_fine.Goals as goal

pub loop-square-init : goal.loop-square-init
loop-square-init c = all_none _

pub returns-then-not-ground_at_fine : goal.returns-then-not-ground_at_fine
unfolding grounds_fine
returns-then-not-ground_at_fine c = λ rules. sym (all_fails _ _ c.loop-square.square (omega arith) (fails_by c.ground_at_fine.ensures (ap not c.if-not-ground_at_fine.true)))

pub loop-square-preserved : goal.loop-square-preserved
loop-square-preserved c = all_more _ _ c.loop-square.invariant (holds_by c.ground_at_fine.ensures (ap not c.if-not-ground_at_fine.false))

pub returns : goal.returns
unfolding grounds_fine
returns c = λ rules. sym (all_whole _ c.loop-square.invariant (omega arith))
