-- `stands::putting::put_total` meets its contract: its line is put.
-- Assumes nothing.
use native.Mathlib.Omega.{arith}
use Rattle.stands.specs.Texts.{total_text}
use Rattle.stands.proofs.LengthLaws.{total_short}
use Rattle.stands.proofs.putting.put_total.Goals as goal

pub put_line-requires : goal.put_line-requires
unfolding total_text
put_line-requires c = omega (arith, total_short c.args.word.now c.args.total (omega arith) c.requires.0, c.requires.1)

pub returns : goal.returns
unfolding total_text
returns c = record { wrote = c.put_line.ensures; short = total_short c.args.word.now c.args.total (omega arith) c.requires.0 }
