-- `trials::slot_before` meets its contract: the last slot before slot 0, else one less.
-- Assumes nothing.
use mathlib.Core.Path.{sym}
use native.Mathlib.Omega.{arith}
use Rattle.trials.proofs.RingLaws.{before-first, before_later}
use Rattle.trials.proofs.slot_before.Goals as goal

pub returns-then-newest-eq0 : goal.returns-then-newest-eq0
returns-then-newest-eq0 c = let a = c.args in sym (before-first a.k a.newest (omega arith))

pub returns-else-newest-eq0 : goal.returns-else-newest-eq0
returns-else-newest-eq0 c = let a = c.args in sym (before_later a.k a.newest (λ e. omega arith))
