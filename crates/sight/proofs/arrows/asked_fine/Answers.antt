-- `sight::arrows::asked_fine` meets its contract: each early return is a test that fails.
-- Assumes nothing.
use borrow.Author.Tests.{lt-leb, le-leb, le-ltb}
use Rattle.reckon.specs.Tests.{every}
use Rattle.reckon.proofs.TestLaws.{and_true}
use Rattle.sight.specs.Arrows.{asked_fine}
use Rattle.sight.proofs.arrows.asked_fine.Goals as goal

pub returns-then-square_side-lt1 : goal.returns-then-square_side-lt1
unfolding asked_fine every
returns-then-square_side-lt1 c = search (lt-leb, le-leb, le-ltb, and_true)

pub returns-then-square_side-gt-MOST_SIDE : goal.returns-then-square_side-gt-MOST_SIDE
unfolding asked_fine every
returns-then-square_side-gt-MOST_SIDE c = search (lt-leb, le-leb, le-ltb, and_true)

pub returns-then-shape-row : goal.returns-then-shape-row
unfolding asked_fine every
returns-then-shape-row c = search (lt-leb, le-leb, le-ltb, and_true)

pub returns : goal.returns
unfolding asked_fine every
returns c = search (lt-leb, le-leb, le-ltb, and_true)
