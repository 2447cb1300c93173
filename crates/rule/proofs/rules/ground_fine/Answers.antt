-- `rule::rules::ground_fine` meets its contract: each early return is a test that fails.
-- Assumes nothing.
use borrow.Author.Tests.{le-leb, lt-leb}
use Rattle.reckon.specs.Tests.{every}
use Rattle.reckon.proofs.TestLaws.{and_true}
use Rattle.rule.specs.Rules.{ground_fine}
use Rattle.rule.proofs.rules.ground_fine.Goals as goal

pub returns-then-bed-gt-MOST_BED : goal.returns-then-bed-gt-MOST_BED
unfolding ground_fine every
returns-then-bed-gt-MOST_BED c = search (lt-leb, le-leb)

pub returns-then-roughness-lt1 : goal.returns-then-roughness-lt1
unfolding ground_fine every
returns-then-roughness-lt1 c = search (lt-leb, le-leb)

pub returns : goal.returns
unfolding ground_fine every
returns c = search (lt-leb, le-leb, and_true)
