-- `checks::fresh::clear_lasts` meets its contract: the room is filled with 0 up to the square.
-- Assumes nothing.
use native.Mathlib.Omega.{arith}
use Rattle.reckon.proofs.ListLaws.{filled_none}
use Rattle.checks.proofs.FreshLaws.{clear_more}
use Rattle.checks.proofs.fresh.clear_lasts.Goals as goal

pub loop-square-init : goal.loop-square-init
loop-square-init c = filled_none _ _ _

pub loop-square-preserved : goal.loop-square-preserved
loop-square-preserved c = clear_more _ _ _ (omega arith) c.loop-square.invariant c.clear_last.ensures
