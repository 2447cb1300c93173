-- `stands::putting::put_named` meets its contract: its line is put.
-- Assumes nothing.
use native.Mathlib.Omega.{arith}
use Rattle.stands.proofs.LengthLaws.{hatch_short}
use Rattle.stands.proofs.putting.put_named.Goals as goal

pub put_line-requires : goal.put_line-requires
put_line-requires c =
    let h = hatch_short c.args.hatch c.args.row c.args.column c.args.litres c.requires.0 (omega arith) (omega arith) (omega arith) in
    omega (arith, h, c.requires.1)

pub returns : goal.returns
returns c = record { wrote = c.put_line.ensures; short = hatch_short c.args.hatch c.args.row c.args.column c.args.litres c.requires.0 (omega arith) (omega arith) (omega arith) }
