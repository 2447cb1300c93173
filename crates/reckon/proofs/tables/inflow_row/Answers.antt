-- `reckon::tables::inflow_row` meets its contract: a row for another square adds nothing.
-- Assumes nothing.
use mathlib.Core.Path.{sym, ◌∙◌}
use Rattle.reckon.proofs.TestLaws.{pick_true, pick_false}
use Rattle.reckon.proofs.tables.inflow_row.Goals as goal

pub returns-then-not-row_on : goal.returns-then-not-row_on
returns-then-not-row_on c = sym (pick_false _ _ (sym c.row_on.ensures ∙ c.if-not-row_on.true))

pub returns : goal.returns
returns c = c.row_gives.ensures ∙ sym (pick_true _ _ (sym c.row_on.ensures ∙ c.if-not-row_on.false))
