-- `peaks::raising::raise_eight` meets its contract: eight that stay are passed over, others are a stretch.
-- Assumes nothing.
use native.Mathlib.Omega.{arith}
use Rattle.peaks.proofs.RaiseLaws.{between_eight}
use Rattle.peaks.proofs.raising.raise_eight.Goals as goal

pub returns-then-eight_stay : goal.returns-then-eight_stay
returns-then-eight_stay c = between_eight _ _ _ _ _ _ _ (omega arith) (omega arith) (c.eight_stay.ensures c.if-eight_stay.true)
