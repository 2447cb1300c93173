-- `stands::judging::hatches_fine` meets its contract: every hatch passed so far was fine.
-- Assumes nothing.
use mathlib.Core.Path.{ap}
use mathlib.Core.Path.{sym}
use mathlib.Core.Bool.{not}
use native.Mathlib.Omega.{arith}
use Rattle.reckon.proofs.TestLaws.{all_none, all_more, all_fails, all_whole}
use Rattle.checks.proofs.CheckLaws.{fails_by, holds_by}
use Rattle.stands.specs.Laying.{hatches_fine}
use Rattle.stands.proofs.judging.hatches_fine.Goals as goal

pub loop-hatch-init : goal.loop-hatch-init
loop-hatch-init c = all_none _

pub returns-then-not-place_fine : goal.returns-then-not-place_fine
unfolding hatches_fine
returns-then-not-place_fine c = sym (all_fails _ _ c.loop-hatch.hatch (omega arith) (fails_by c.place_fine.ensures (ap not c.if-not-place_fine.true)))

pub loop-hatch-preserved : goal.loop-hatch-preserved
loop-hatch-preserved c = all_more _ _ c.loop-hatch.invariant (holds_by c.place_fine.ensures (ap not c.if-not-place_fine.false))

pub returns : goal.returns
unfolding hatches_fine
returns c = sym (all_whole _ c.loop-hatch.invariant (omega arith))
