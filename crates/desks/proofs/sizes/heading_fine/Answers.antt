use mathlib.Core.Path.{ap}
use mathlib.Core.Bool.{not}
use mathlib.Core.Path.{refl, sym}
use borrow.Author.Tests.{le-leb, lt-leb}
use Rattle.reckon.proofs.TestLaws.{every_fails}
use Rattle.checks.proofs.CheckLaws.{fails_by, holds_by, every_decided}
use Rattle.desks.specs.State.{heading_fine}
use Rattle.desks.proofs.sizes.heading_fine.Goals as goal

-- src/sizes.rt:29:9
pub returns-then-not-shape_fine : goal.returns-then-not-shape_fine
unfolding heading_fine
returns-then-not-shape_fine c = sym (every_fails _ 0 (fails_by c.shape_fine.ensures (ap not c.if-not-shape_fine.true)))

-- src/sizes.rt:32:9
pub returns-then-heading-gt-MOST_TABLE_ROWS : goal.returns-then-heading-gt-MOST_TABLE_ROWS
unfolding heading_fine
returns-then-heading-gt-MOST_TABLE_ROWS c = sym (every_fails _ 1 (lt-leb _ _ c.if-heading-gt-MOST_TABLE_ROWS.true))

-- src/sizes.rt:25:1
pub returns : goal.returns
unfolding heading_fine
returns c = every_decided _ 2 _ refl (λ t. (holds_by c.shape_fine.ensures (ap not c.if-not-shape_fine.false), (le-leb _ _ c.if-heading-gt-MOST_TABLE_ROWS.false, (t, tt))))
