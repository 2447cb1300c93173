-- `reckon::ranges::water_fine` meets its contract: each early return is a test that fails.
-- Assumes nothing.
use borrow.Author.Tests.{le-leb, lt-leb}
use Rattle.reckon.specs.Tests.{every}
use Rattle.reckon.proofs.TestLaws.{and_true}
use Rattle.reckon.specs.Ranges.{water_fine}
use Rattle.reckon.proofs.ranges.water_fine.Goals as goal

pub returns-then-depth-gt-MOST_DEPTH : goal.returns-then-depth-gt-MOST_DEPTH
unfolding water_fine every
returns-then-depth-gt-MOST_DEPTH c = search (lt-leb, le-leb)

pub returns : goal.returns
unfolding water_fine every
returns c = search (lt-leb, le-leb, and_true)
