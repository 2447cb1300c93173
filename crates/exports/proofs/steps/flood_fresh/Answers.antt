-- `exports::steps::flood_fresh` meets its contract: each slice has its size, or the call is refused by 1.
-- Assumes nothing.
use borrow.Author.Tests.{eq-eqb, ne_eqb}
use Rattle.reckon.proofs.TestLaws.{each_every, every_fails}
use Rattle.exports.proofs.NumberLaws.{plan_of}
use Rattle.exports.proofs.StepLaws.{fresh_unsized, fresh-told}
use Rattle.exports.proofs.steps.flood_fresh.Goals as goal

pub returns-then-rules-ne-RULES_NUMBERS : goal.returns-then-rules-ne-RULES_NUMBERS
returns-then-rules-ne-RULES_NUMBERS c = fresh_unsized _ _ _ _ _ _ (every_fails _ 0 (ne_eqb _ _ c.if-rules-ne-RULES_NUMBERS.true))

pub returns-then-run-ne-RUN_NUMBERS : goal.returns-then-run-ne-RUN_NUMBERS
returns-then-run-ne-RUN_NUMBERS c = fresh_unsized _ _ _ _ _ _ (every_fails _ 1 (ne_eqb _ _ c.if-run-ne-RUN_NUMBERS.true))

pub returns : goal.returns
returns c =
    fresh-told _ _ _ _ _ _
    (each_every _ (eq-eqb _ _ c.if-rules-ne-RULES_NUMBERS.false, (eq-eqb _ _ c.if-run-ne-RUN_NUMBERS.false, tt)))
    (plan_of c.shape_from.ensures) c.rules_from.ensures c.fresh-answer.ensures c.tell_answer.ensures
