-- `slices::running::put_told` meets its contract: the line is short.
-- Assumes nothing.
use native.Mathlib.Omega.{arith}
use Rattle.slices.specs.Inner.Telling.{told_text}
use Rattle.slices.proofs.ToldLaws.{told-short}
use Rattle.slices.proofs.running.put_told.Goals as goal

pub put_line-requires : goal.put_line-requires
unfolding told_text
put_line-requires c = let h = told-short c.args.steps c.args.clock (omega arith) (omega arith) in omega (arith, h, c.requires)

pub returns : goal.returns
unfolding told_text
returns c =
    let h = told-short c.args.steps c.args.clock (omega arith) (omega arith) in
    (c.put_line.ensures, omega (arith, h, c.put_line.ensures.next))
