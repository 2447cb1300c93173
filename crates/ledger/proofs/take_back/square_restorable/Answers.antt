-- `ledger::take_back::square_restorable` meets its contract: each return is a case of the square's tests.
-- Assumes nothing.
use mathlib.Core.Path.{sym, ◌∙◌}
use Rattle.ledger.specs.Runs.{plan}
use Rattle.ledger.proofs.BackLaws.{restorable-closed, restorable-last, restorable-short, restorable_decides}
use Rattle.ledger.proofs.take_back.square_restorable.Goals as goal

pub returns-then-is_closed : goal.returns-then-is_closed
returns-then-is_closed c =
    restorable-closed (plan c.args.shape c.args.marks.now) c.args.rec.now c.args.depths.now
    c.args.square (sym c.is_closed.ensures ∙ c.if-is_closed.true)

pub returns-then-last_before-gt-MOST_DEPTH : goal.returns-then-last_before-gt-MOST_DEPTH
returns-then-last_before-gt-MOST_DEPTH c =
    restorable-last (plan c.args.shape c.args.marks.now) c.args.rec.now c.args.depths.now
    c.args.square (sym c.is_closed.ensures ∙ c.if-is_closed.false)
    c.last_before.ensures c.if-last_before-gt-MOST_DEPTH.true

pub returns-then-more-less : goal.returns-then-more-less
returns-then-more-less c =
    restorable-short (plan c.args.shape c.args.marks.now) c.args.rec.now c.args.depths.now
    c.args.square
    (sym c.is_closed.ensures ∙ c.if-is_closed.false)
    c.held_and_gone-more.ensures c.came_and_added-less.ensures c.if-more-less.true

pub returns : goal.returns
returns c =
    restorable_decides (plan c.args.shape c.args.marks.now) c.args.rec.now c.args.depths.now
    c.args.square
    (sym c.is_closed.ensures ∙ c.if-is_closed.false)
    c.held_and_gone-more.ensures c.came_and_added-less.ensures
    c.last_before.ensures c.if-last_before-gt-MOST_DEPTH.false c.if-more-less.false
