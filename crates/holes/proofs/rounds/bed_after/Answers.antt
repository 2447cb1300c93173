-- `holes::rounds::bed_after` meets its contract: an unknown bed takes the lowest beside it, and a known one stays.
-- Assumes nothing.
use mathlib.Core.Path.{sym, ◌∙◌}
use borrow.Author.Tests.{eq-eqb, ne_eqb}
use Rattle.reckon.proofs.TestLaws.{pick_true, pick_false}
use Rattle.holes.proofs.rounds.bed_after.Goals as goal

pub returns-then-bed-eq-NO_BED : goal.returns-then-bed-eq-NO_BED
returns-then-bed-eq-NO_BED c = c.lowest_beside.ensures ∙ sym (pick_true _ _ (eq-eqb _ _ c.if-bed-eq-NO_BED.true))

pub returns : goal.returns
returns c = sym (pick_false _ _ (ne_eqb _ _ c.if-bed-eq-NO_BED.false))
