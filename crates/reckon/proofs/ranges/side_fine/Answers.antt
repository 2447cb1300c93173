-- `reckon::ranges::side_fine` meets its contract: each early return is a test that fails.
-- Assumes nothing.
use borrow.Author.Tests.{le-leb, lt-leb}
use Rattle.reckon.specs.Tests.{every}
use Rattle.reckon.proofs.TestLaws.{and_true}
use Rattle.reckon.specs.Ranges.{side_fine}
use Rattle.reckon.proofs.ranges.side_fine.Goals as goal

pub returns-then-side-lt1 : goal.returns-then-side-lt1
unfolding side_fine every
returns-then-side-lt1 c = search (lt-leb, le-leb)

pub returns : goal.returns
unfolding side_fine every
returns c = search (lt-leb, le-leb, and_true)
