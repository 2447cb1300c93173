-- `frames::bounds::put_both` meets its contract: the line is short.
-- Assumes nothing.
use native.Mathlib.Omega.{arith}
use Rattle.frames.proofs.BoundsLaws.{both_short}
use Rattle.frames.proofs.bounds.put_both.Goals as goal

pub put_line-requires : goal.put_line-requires
put_line-requires c =
    let h = both_short c.args.figures (omega (arith, c.well_formed)) (omega (arith, c.well_formed)) in
    omega (arith, h, c.requires)
