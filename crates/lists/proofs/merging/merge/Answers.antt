-- `lists::merging::merge` meets its contract: the first squares have the sheet.
-- Assumes nothing.
use native.Mathlib.Omega.{arith}
use Rattle.lists.proofs.MergeLaws.{merged_none, merged_more, merged_all}
use Rattle.lists.proofs.merging.merge.Goals as goal

pub loop-square-init : goal.loop-square-init
loop-square-init c = merged_none _ _ _ _ _ _

pub loop-square-preserved : goal.loop-square-preserved
loop-square-preserved c =
    merged_more _ _ _ _ _ _ c.loop-square.invariant (omega arith) (omega arith) (omega arith) c.merge_square.ensures

pub returns : goal.returns
returns c = merged_all _ _ _ _ _ _ c.loop-square.invariant c.args.shape (omega arith)
