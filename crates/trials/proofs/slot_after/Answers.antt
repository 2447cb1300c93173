-- `trials::slot_after` meets its contract: the next slot where there is one, else slot 0.
-- Assumes nothing.
use mathlib.Core.Path.{sym}
use native.Mathlib.Omega.{arith}
use Rattle.trials.proofs.RingLaws.{after_next, after_last}
use Rattle.trials.proofs.slot_after.Goals as goal

pub returns-then-newest-k : goal.returns-then-newest-k
returns-then-newest-k c = let a = c.args in sym (after_next a.k a.newest (omega arith))

pub returns-else-newest-k : goal.returns-else-newest-k
returns-else-newest-k c = let a = c.args in sym (after_last a.k a.newest (omega arith))
