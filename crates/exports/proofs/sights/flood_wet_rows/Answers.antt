-- `exports::sights::flood_wet_rows` meets its contract: the slice has its size, or the call is refused by 1.
-- Assumes nothing.
use Rattle.exports.proofs.NumberLaws.{plan_of}
use Rattle.exports.proofs.SightLaws.{wet_unsized, wet_told}
use Rattle.exports.proofs.sights.flood_wet_rows.Goals as goal

pub returns-then-count-ne-COUNT_NUMBERS : goal.returns-then-count-ne-COUNT_NUMBERS
returns-then-count-ne-COUNT_NUMBERS c = wet_unsized _ _ _ _ _ c.if-count-ne-COUNT_NUMBERS.true

pub returns : goal.returns
returns c =
    wet_told _ _ _ _ _ c.if-count-ne-COUNT_NUMBERS.false (plan_of c.shape_from.ensures)
    c.wet_rows-answer.ensures c.tell_wet.ensures
