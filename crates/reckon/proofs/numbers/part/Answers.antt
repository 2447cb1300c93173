-- `reckon::numbers::part` meets its contract: from y on all of d is taken, and below y the product is below y * d.
-- Assumes nothing.
use Rattle.reckon.proofs.QuotientLaws.{part_all, part_some}
use Rattle.reckon.proofs.numbers.part.Goals as goal

pub returns-then-y-x : goal.returns-then-y-x
returns-then-y-x c =
    let a = c.args in
    part_all a.d a.x a.y c.requires.0 c.if-y-x.true

pub returns : goal.returns
returns c =
    let a = c.args in
    part_some a.d a.x a.y c.if-y-x.false
