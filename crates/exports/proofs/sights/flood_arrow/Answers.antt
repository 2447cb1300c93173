-- `exports::sights::flood_arrow` meets its contract: each slice has its size, or the call is refused by 1.
-- Assumes nothing.
use borrow.Author.Tests.{eq-eqb, ne_eqb}
use Rattle.reckon.proofs.TestLaws.{each_every, every_fails}
use Rattle.exports.proofs.NumberLaws.{plan_of, world-of}
use Rattle.exports.proofs.SightLaws.{arrow_unsized, arrow_told}
use Rattle.exports.proofs.sights.flood_arrow.Goals as goal

pub returns-then-run-ne-RUN_NUMBERS : goal.returns-then-run-ne-RUN_NUMBERS
returns-then-run-ne-RUN_NUMBERS c = arrow_unsized _ _ _ _ _ _ _ (every_fails _ 0 (ne_eqb _ _ c.if-run-ne-RUN_NUMBERS.true))

pub returns-then-speeds-ne-SPEED_NUMBERS : goal.returns-then-speeds-ne-SPEED_NUMBERS
returns-then-speeds-ne-SPEED_NUMBERS c = arrow_unsized _ _ _ _ _ _ _ (every_fails _ 1 (ne_eqb _ _ c.if-speeds-ne-SPEED_NUMBERS.true))

pub returns : goal.returns
returns c =
    arrow_told _ _ _ _ _ _ _
    (each_every _ (eq-eqb _ _ c.if-run-ne-RUN_NUMBERS.false, (eq-eqb _ _ c.if-speeds-ne-SPEED_NUMBERS.false, tt)))
    (plan_of c.shape_from.ensures) (world-of c.run_from.ensures) c.arrow-sight.ensures c.tell_sight.ensures
