-- `raster::reading::line_end_after` meets its contract: the number where a newline follows.
-- Assumes nothing.
use mathlib.Core.Path.{sym, ap, ◌∙◌}
use native.Mathlib.Omega.{arith}
use Rattle.reckon.proofs.TestLaws.{pick_true, pick_false}
use Rattle.text.proofs.ReadingLaws.{byte_within}
use Rattle.raster.specs.Raster.{line_end_after}
use Rattle.raster.proofs.reading.line_end_after.Goals as goal

pub returns-in_err-number : goal.returns-in_err-number
unfolding line_end_after
returns-in_err-number c = c.from_residual.ensures ∙ sym (ap (line_end_after _) c.in_err-number.was)

pub returns-then-not-byte_is : goal.returns-then-not-byte_is
unfolding line_end_after
returns-then-not-byte_is c = sym (ap (line_end_after _) c.in_ok-number.was ∙ pick_false _ _ (sym c.if-not-byte_is.ensures))

pub overflow_add-result : goal.overflow_add-result
overflow_add-result c = omega (arith, byte_within _ _ 10 (sym c.if-not-byte_is.ensures))

pub returns : goal.returns
unfolding line_end_after
returns c = sym (ap (line_end_after _) c.in_ok-number.was ∙ pick_true _ _ (sym c.if-not-byte_is.ensures))
