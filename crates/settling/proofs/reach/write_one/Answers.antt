-- `settling::reach::write_one` meets its contract: nothing is stored where the square is closed.
-- Assumes nothing.
use Rattle.std.proofs.Common.{sym, ◌∙◌}
use Rattle.reckon.proofs.TestLaws.{pick_true, pick_false}
use Rattle.settling.proofs.reach.write_one.Goals as goal

pub returns-then-is_closed : goal.returns-then-is_closed
returns-then-is_closed c = sym (pick_true _ _ (sym c.is_closed.ensures ∙ c.if-is_closed.true))

pub returns : goal.returns
returns c = sym (pick_false _ _ (sym c.is_closed.ensures ∙ c.if-is_closed.false))
