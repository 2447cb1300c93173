-- `hatches::refusals::standing_fine` meets its contract.
-- Assumes nothing.
use mathlib.Core.Path.{refl, sym}
use borrow.Author.Tests.{lt-leb, le-leb}
use Rattle.reckon.proofs.TestLaws.{every_fails}
use Rattle.checks.proofs.CheckLaws.{every_decided}
use Rattle.hatches.specs.Log.{standing_fine}
use Rattle.hatches.proofs.refusals.standing_fine.Goals as goal

pub returns-then-log-run : goal.returns-then-log-run
unfolding standing_fine
returns-then-log-run c = sym (every_fails _ 0 (lt-leb _ _ c.if-log-run.true))

pub returns : goal.returns
unfolding standing_fine
returns c = every_decided _ 1 _ refl (λ t. (le-leb _ _ c.if-log-run.false, (t, tt)))
