-- `checks::bounds::spans_whole` meets its contract: a clock between multiples of U fails, and at one the end decides.
-- Assumes nothing.
use mathlib.Core.Path.{ap}
use mathlib.Core.Bool.{not}
use mathlib.Core.Path.{refl, sym}
use Rattle.reckon.proofs.TestLaws.{every_fails}
use Rattle.checks.specs.Bounds.{spans_whole}
use Rattle.checks.proofs.CheckLaws.{fails_by, holds_by, every_decided}
use Rattle.checks.proofs.bounds.spans_whole.Goals as goal

pub returns-then-not-is_update : goal.returns-then-not-is_update
unfolding spans_whole
returns-then-not-is_update c = sym (every_fails _ 0 (fails_by c.is_update.ensures (ap not c.if-not-is_update.true)))

pub returns : goal.returns
unfolding spans_whole
returns c = every_decided _ 1 _ refl (λ t. (holds_by c.is_update.ensures (ap not c.if-not-is_update.false), (t, tt)))
