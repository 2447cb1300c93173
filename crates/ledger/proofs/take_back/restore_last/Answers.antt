-- `ledger::take_back::restore_last` meets its contract: nothing is stored where the square is closed.
-- Assumes nothing.
use mathlib.Core.Path.{sym, ap, ◌∙◌}
use lib.ListN.{set}
use Rattle.reckon.proofs.TestLaws.{pick_true, pick_false}
use Rattle.ledger.proofs.take_back.restore_last.Goals as goal

pub returns-then-is_closed : goal.returns-then-is_closed
returns-then-is_closed c = sym (pick_true _ _ (sym c.is_closed.ensures ∙ c.if-is_closed.true))

pub returns : goal.returns
returns c =
    ap (set c.args.lasts.now c.args.square) c.last_before.ensures ∙ sym
    (pick_false _ _ (sym c.is_closed.ensures ∙ c.if-is_closed.false))
