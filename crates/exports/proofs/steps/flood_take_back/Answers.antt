-- `exports::steps::flood_take_back` meets its contract: the slice has its size, or the call is refused by 1.
-- Assumes nothing.
use Rattle.exports.proofs.NumberLaws.{plan_of, world-of}
use Rattle.exports.proofs.StepLaws.{back_unsized, back-told}
use Rattle.exports.proofs.steps.flood_take_back.Goals as goal

pub returns-then-run-ne-RUN_NUMBERS : goal.returns-then-run-ne-RUN_NUMBERS
returns-then-run-ne-RUN_NUMBERS c = back_unsized _ _ _ c.if-run-ne-RUN_NUMBERS.true

pub returns : goal.returns
returns c =
    back-told _ _ _ c.if-run-ne-RUN_NUMBERS.false (plan_of c.shape_from.ensures) (world-of c.run_from.ensures)
    c.take_back-answer.ensures c.tell_answer.ensures
