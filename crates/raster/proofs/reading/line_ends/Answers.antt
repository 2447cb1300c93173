-- `raster::reading::line_ends` meets its contract: one where a newline stands.
-- Assumes nothing.
use mathlib.Core.Path.{sym, ◌∙◌}
use Rattle.reckon.proofs.TestLaws.{pick_true, pick_false}
use Rattle.raster.proofs.reading.line_ends.Goals as goal

pub returns-then-byte_is : goal.returns-then-byte_is
returns-then-byte_is c = sym (pick_true _ _ (sym c.byte_is.ensures ∙ c.if-byte_is.true))

pub returns : goal.returns
returns c = sym (pick_false _ _ (sym c.byte_is.ensures ∙ c.if-byte_is.false))
