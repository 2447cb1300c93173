-- `evenings::taking::take_backs` meets its contract: what is still to be taken back, from where the loop has come to, is the whole.
-- Assumes nothing.
use native.Mathlib.Omega.{arith}
use Rattle.evenings.proofs.BackLaws.{backing_on, backing_stops, backing_ends}
use Rattle.evenings.proofs.taking.take_backs.Goals as goal

pub returns-then-refused-ne0 : goal.returns-then-refused-ne0
returns-then-refused-ne0 c = backing_stops _ _ _ c.loop-steps.invariant c.loop-steps-test.true c.back_once-back.ensures c.if-refused-ne0.true

pub loop-steps-preserved : goal.loop-steps-preserved
loop-steps-preserved c = backing_on _ _ _ c.loop-steps.invariant c.loop-steps-test.true c.back_once-back.ensures c.if-refused-ne0.false

pub returns : goal.returns
returns c = backing_ends _ _ _ c.loop-steps.invariant (omega arith)
