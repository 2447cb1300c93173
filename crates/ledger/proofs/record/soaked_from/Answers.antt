-- `ledger::record::soaked_from` meets its contract: nothing where it is closed, else the word.
-- Assumes nothing.
use mathlib.Core.Path.{sym, ◌∙◌}
use Rattle.reckon.proofs.TestLaws.{pick_true, pick_false}
use Rattle.ledger.proofs.record.soaked_from.Goals as goal

pub returns-then-is_closed : goal.returns-then-is_closed
returns-then-is_closed c = sym (pick_true _ _ (sym c.is_closed.ensures ∙ c.if-is_closed.true))

pub returns : goal.returns
returns c = c.soaked_by.ensures ∙ sym (pick_false _ _ (sym c.is_closed.ensures ∙ c.if-is_closed.false))
