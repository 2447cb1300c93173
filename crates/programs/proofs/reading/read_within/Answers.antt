-- `programs::reading::read_within` meets its contract: a text that is too long is refused, and the rooms stay.
-- Assumes nothing.
use Rattle.programs.proofs.HeldLaws.{too_long, not_too_long}
use Rattle.programs.proofs.reading.read_within.Goals as goal

pub returns-then-most-text : goal.returns-then-most-text
returns-then-most-text c = too_long _ _ _ c.if-most-text.true

pub returns : goal.returns
returns c = not_too_long c.if-most-text.false c.read.ensures
