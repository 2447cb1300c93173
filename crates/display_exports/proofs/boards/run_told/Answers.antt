-- `display_exports::boards::run_told` meets its contract: each slice has its size, or the call is refused by 1.
-- Assumes nothing.
use mathlib.Core.Path.{refl}
use borrow.Author.Tests.{eq-eqb, ne_eqb}
use Rattle.reckon.proofs.TestLaws.{each_every, every_fails}
use Rattle.exports.proofs.NumberLaws.{given_of, world-of}
use Rattle.display_exports.proofs.HeldLaws.{held_unsized, held-told}
use Rattle.display_exports.proofs.boards.run_told.Goals as goal

pub returns-then-rules-ne-RULES_NUMBERS : goal.returns-then-rules-ne-RULES_NUMBERS
returns-then-rules-ne-RULES_NUMBERS c = held_unsized _ _ _ _ _ _ _ _ (every_fails _ 0 (ne_eqb _ _ c.if-rules-ne-RULES_NUMBERS.true))

pub returns-then-run-ne-RUN_NUMBERS : goal.returns-then-run-ne-RUN_NUMBERS
returns-then-run-ne-RUN_NUMBERS c = held_unsized _ _ _ _ _ _ _ _ (every_fails _ 1 (ne_eqb _ _ c.if-run-ne-RUN_NUMBERS.true))

pub returns-then-steps-ne-STEPS_NUMBERS : goal.returns-then-steps-ne-STEPS_NUMBERS
returns-then-steps-ne-STEPS_NUMBERS c = held_unsized _ _ _ _ _ _ _ _ (every_fails _ 2 (ne_eqb _ _ c.if-steps-ne-STEPS_NUMBERS.true))

pub returns : goal.returns
returns c =
    held-told _ _ _ _ _ _ _ _
    (each_every _ (eq-eqb _ _ c.if-rules-ne-RULES_NUMBERS.false, (eq-eqb _ _ c.if-run-ne-RUN_NUMBERS.false, (eq-eqb _ _ c.if-steps-ne-STEPS_NUMBERS.false, tt))))
    refl (given_of c.rules_from.ensures) (world-of c.run_from.ensures) c.run_boards-shown.ensures c.tell_ran-number.ensures
