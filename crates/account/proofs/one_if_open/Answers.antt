-- `account::one_if_open` meets its contract.
-- Assumes nothing.
use mathlib.Core.Path.{sym, ◌∙◌}
use Rattle.reckon.proofs.TestLaws.{pick_true, pick_false}
use Rattle.account.proofs.one_if_open.Goals as goal

pub returns-then-is_closed : goal.returns-then-is_closed
returns-then-is_closed c = sym (pick_true _ _ (sym c.is_closed.ensures ∙ c.if-is_closed.true))

pub returns : goal.returns
returns c = sym (pick_false _ _ (sym c.is_closed.ensures ∙ c.if-is_closed.false))
