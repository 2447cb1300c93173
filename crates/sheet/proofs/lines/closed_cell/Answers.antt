-- `sheet::lines::closed_cell` meets its contract: the newline decides.
-- Assumes nothing.
use mathlib.Core.Path.{sym, ◌∙◌}
use native.Mathlib.Omega.{arith}
use Rattle.reckon.proofs.TestLaws.{pick_true, pick_false}
use Rattle.text.specs.Reading.{newline}
use Rattle.text.proofs.ReadingLaws.{byte_within}
use Rattle.sheet.specs.Lines.{closed_cell}
use Rattle.sheet.proofs.lines.closed_cell.Goals as goal

pub returns-then-not-byte_is : goal.returns-then-not-byte_is
unfolding closed_cell
returns-then-not-byte_is c = sym (pick_false _ _ (sym c.byte_is.ensures ∙ c.if-not-byte_is.true))

pub overflow_add-result : goal.overflow_add-result
overflow_add-result c = omega (arith, byte_within c.args.text.now c.args.at newline (sym c.byte_is.ensures ∙ c.if-not-byte_is.false))

pub returns : goal.returns
unfolding closed_cell
returns c = sym (pick_true _ _ (sym c.byte_is.ensures ∙ c.if-not-byte_is.false))
