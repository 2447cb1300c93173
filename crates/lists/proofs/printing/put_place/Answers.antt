-- `lists::printing::put_place` meets its contract: an accepted one has no line.
-- Assumes nothing.
use mathlib.Core.Path.{ap}
use native.Mathlib.Omega.{arith}
use lib.ListN.{length}
use Rattle.answer.proofs.PrintLaws.{written_as}
use Rattle.lists.proofs.PrintLaws.{nothing_written, accepted_line, refused-line}
use Rattle.lists.proofs.printing.put_place.Goals as goal

pub returns-then-number-eq0 : goal.returns-then-number-eq0
returns-then-number-eq0 c = nothing_written _ (accepted_line _ _ c.if-number-eq0.true)

pub put_numbers-requires : goal.put_numbers-requires
put_numbers-requires c = omega (arith, c.requires, ap length (refused-line c.args.place c.args.number c.if-number-eq0.false))

pub returns : goal.returns
returns c = written_as (refused-line _ _ c.if-number-eq0.false) c.put_numbers.ensures
