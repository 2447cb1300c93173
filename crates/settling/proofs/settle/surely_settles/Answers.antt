-- `settling::settle::surely_settles` meets its contract: each early return is a test that fails, and the depths decide at last.
-- Assumes nothing.
use Rattle.settling.proofs.SureLaws.{unsure_outflow, unsure_soaked, sure_by}
use Rattle.settling.proofs.settle.surely_settles.Goals as goal

pub returns-then-run : goal.returns-then-run
returns-then-run c = unsure_outflow _ _ _ c.if-run.true

pub returns-then-run-2 : goal.returns-then-run-2
returns-then-run-2 c = unsure_soaked _ _ _ c.if-run-2.true

pub returns : goal.returns
returns c = sure_by _ _ _ c.if-run.false c.if-run-2.false c.joined-deepest.ensures c.joined-most.ensures
