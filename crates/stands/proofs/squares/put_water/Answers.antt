-- `stands::squares::put_water` meets its contract: a closed square is left.
-- Assumes nothing.
use mathlib.Core.Path.{sym, ◌∙◌}
use Rattle.reckon.proofs.TestLaws.{pick_true, pick_false}
use Rattle.stands.proofs.squares.put_water.Goals as goal

pub returns-then-is_closed : goal.returns-then-is_closed
returns-then-is_closed c =
    let t = sym c.is_closed.ensures ∙ c.if-is_closed.true in
    (sym (pick_true _ _ t), sym (pick_true _ _ t))

pub returns : goal.returns
returns c =
    let t = sym c.is_closed.ensures ∙ c.if-is_closed.false in
    (sym (pick_false _ _ t), sym (pick_false _ _ t))
