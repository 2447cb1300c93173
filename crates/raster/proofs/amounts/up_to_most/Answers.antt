-- `raster::amounts::up_to_most` meets its contract: the number where it is not above the most.
-- Assumes nothing.
use mathlib.Core.Path.{sym}
use borrow.Author.Tests.{le-leb, lt-leb}
use Rattle.reckon.proofs.TestLaws.{pick_true, pick_false}
use Rattle.raster.specs.Amounts.{up_to_most}
use Rattle.raster.proofs.amounts.up_to_most.Goals as goal

pub returns-then-found-gt-MOST_NUMBER : goal.returns-then-found-gt-MOST_NUMBER
unfolding up_to_most
returns-then-found-gt-MOST_NUMBER c = sym (pick_false _ _ (lt-leb _ _ c.if-found-gt-MOST_NUMBER.true))

pub returns : goal.returns
unfolding up_to_most
returns c = sym (pick_true _ _ (le-leb _ _ c.if-found-gt-MOST_NUMBER.false))
