-- `answer::printing::put_refused` meets its contract: the line is short.
-- Assumes nothing.
use native.Mathlib.Omega.{arith}
use Rattle.answer.specs.Printed.{refused_text}
use Rattle.answer.proofs.PrintLaws.{refused-short}
use Rattle.answer.proofs.printing.put_refused.Goals as goal

pub put_line-requires : goal.put_line-requires
unfolding refused_text
put_line-requires c = let h = refused-short c.args.refusal c.args.line (omega arith) (omega arith) in omega (arith, h, c.requires)

pub returns : goal.returns
unfolding refused_text
returns c = c.put_line.ensures
