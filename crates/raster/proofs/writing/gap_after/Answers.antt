-- `raster::writing::gap_after` meets its contract: a newline or a space.
-- Assumes nothing.
use mathlib.Core.Path.{sym, ◌∙◌}
use Rattle.reckon.proofs.TestLaws.{pick_true, pick_false}
use Rattle.raster.proofs.writing.gap_after.Goals as goal

pub last_in_row-requires : goal.last_in_row-requires
last_in_row-requires c = c.requires

pub returns-then-last_in_row : goal.returns-then-last_in_row
returns-then-last_in_row c = sym (pick_true _ _ (sym c.last_in_row.ensures ∙ c.if-last_in_row.true))

pub returns : goal.returns
returns c = sym (pick_false _ _ (sym c.last_in_row.ensures ∙ c.if-last_in_row.false))
