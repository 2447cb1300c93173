-- `exports::bounds::flood_step_bounds` meets its contract: each slice has its size, or the call is refused by 1.
-- Assumes nothing.
use borrow.Author.Tests.{eq-eqb, ne_eqb}
use Rattle.reckon.proofs.TestLaws.{each_every, every_fails}
use Rattle.exports.proofs.BoundsLaws.{bounds_unsized, bounds-sized}
use Rattle.exports.proofs.bounds.flood_step_bounds.Goals as goal

pub returns-then-rules-ne-RULES_NUMBERS : goal.returns-then-rules-ne-RULES_NUMBERS
returns-then-rules-ne-RULES_NUMBERS c = bounds_unsized _ _ _ _ (every_fails _ 0 (ne_eqb _ _ c.if-rules-ne-RULES_NUMBERS.true))

pub returns-then-bounds-ne-BOUNDS_NUMBERS : goal.returns-then-bounds-ne-BOUNDS_NUMBERS
returns-then-bounds-ne-BOUNDS_NUMBERS c = bounds_unsized _ _ _ _ (every_fails _ 1 (ne_eqb _ _ c.if-bounds-ne-BOUNDS_NUMBERS.true))

pub returns : goal.returns
returns c =
    bounds-sized _ _ _ _
    (each_every _ (eq-eqb _ _ c.if-rules-ne-RULES_NUMBERS.false, (eq-eqb _ _ c.if-bounds-ne-BOUNDS_NUMBERS.false, tt)))
    c.rules_from.ensures c.step_bounds-answer.ensures c.tell_bounds.ensures
