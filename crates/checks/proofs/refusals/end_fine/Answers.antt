-- `checks::refusals::end_fine` meets its contract: an end past the last clock fails, and below it the rest of the division decides.
-- Assumes nothing.
use mathlib.Core.Path.{refl, sym}
use borrow.Author.Tests.{lt-leb, le-leb}
use Rattle.reckon.proofs.TestLaws.{every_fails}
use Rattle.checks.specs.Refusals.{end_fine}
use Rattle.checks.proofs.CheckLaws.{every_decided}
use Rattle.checks.proofs.refusals.end_fine.Goals as goal

pub returns-then-end-gt-LAST_CLOCK : goal.returns-then-end-gt-LAST_CLOCK
unfolding end_fine
returns-then-end-gt-LAST_CLOCK c = sym (every_fails _ 0 (lt-leb _ _ c.if-end-gt-LAST_CLOCK.true))

pub returns : goal.returns
unfolding end_fine
returns c = every_decided _ 1 _ refl (λ t. (le-leb _ _ c.if-end-gt-LAST_CLOCK.false, (t, tt)))
