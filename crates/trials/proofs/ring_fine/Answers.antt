-- `trials::ring_fine` meets its contract: each test is one of the ring's, and the last decides.
-- Assumes nothing.
use mathlib.Core.Path.{sym}
use native.Mathlib.Omega.{arith}
use Rattle.trials.proofs.RingLaws.{none_fails, kept_fails, newest_decides}
use Rattle.trials.proofs.ring_fine.Goals as goal

pub returns-then-k-eq0 : goal.returns-then-k-eq0
returns-then-k-eq0 c = let a = c.args in sym (none_fails a.k a.kept a.newest (omega arith))

pub returns-then-k-kept : goal.returns-then-k-kept
returns-then-k-kept c = let a = c.args in sym (kept_fails a.k a.kept a.newest (omega arith))

pub returns : goal.returns
returns c = let a = c.args in sym (newest_decides a.k a.kept a.newest (omega arith) (omega arith))
