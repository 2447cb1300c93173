-- `survey::returning::shape_taken` meets its contract: the first test that fails decides.
-- Assumes nothing.
use mathlib.Core.Path.{ap}
use mathlib.Core.Bool.{not}
use mathlib.Core.Path.{sym, ◌∙◌}
use Rattle.reckon.proofs.TestLaws.{every_fails}
use Rattle.checks.proofs.CheckLaws.{fails_by, holds_by, every_decided}
use Rattle.survey.proofs.returning.shape_taken.Goals as goal

pub returns-then-not-shape_fine : goal.returns-then-not-shape_fine
returns-then-not-shape_fine c = sym (every_fails _ 0 (fails_by c.shape_fine.ensures (ap not c.if-not-shape_fine.true)))

pub returns : goal.returns
returns c =
    every_decided _ 1 _ (sym c.side_fine.ensures)
    (λ z. (holds_by c.shape_fine.ensures (ap not c.if-not-shape_fine.false), (sym c.side_fine.ensures ∙ z, tt)))
