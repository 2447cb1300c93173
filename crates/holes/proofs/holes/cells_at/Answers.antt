-- `holes::holes::cells_at` meets its contract: the line after the next one.
-- Assumes nothing.
use mathlib.Core.Path.{ap, ◌∙◌}
use native.Mathlib.Omega.{arith}
use Rattle.text.specs.Reading.{next_line, line_from}
use Rattle.text.proofs.EndLaws.{next-within}
use Rattle.holes.proofs.holes.cells_at.Goals as goal

pub next_line-requires-2 : goal.next_line-requires-2
next_line-requires-2 c = omega (arith, c.next_line.ensures, next-within c.args.text.now 0 (omega arith))

pub returns : goal.returns
unfolding line_from
returns c = c.next_line-2.ensures ∙ ap (next_line c.args.text.now) c.next_line.ensures
