-- `peaks::raising::raise_between` meets its contract: the squares from the start up to the one reached are raised.
-- Assumes nothing.
use native.Mathlib.Omega.{arith}
use Rattle.peaks.proofs.RaiseLaws.{between_more}
use Rattle.peaks.proofs.raising.raise_between.Goals as goal

pub loop-square-preserved : goal.loop-square-preserved
loop-square-preserved c =
    between_more c.args.first c.args.clock c.args.marks.now c.args.depths.now c.args.peaks.now c.args.clocks.now c.args.start c.loop-square.square
    (omega arith) (omega arith) c.loop-square.invariant c.raise_one.ensures
