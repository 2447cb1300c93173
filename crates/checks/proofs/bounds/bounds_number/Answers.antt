-- `checks::bounds::bounds_number` meets its contract: the tests are made in the table's order, and the first that fails is given.
-- Assumes nothing.
use mathlib.Core.Path.{ap}
use mathlib.Core.Bool.{not}
use mathlib.Core.Path.{sym, ◌∙◌}
use borrow.Author.Tests.{lt-leb, le-leb}
use Rattle.reckon.proofs.TestLaws.{refusal_here, refusal_later, passed_refusal}
use Rattle.checks.specs.Bounds.{bounds_number, bounds_refusals}
use Rattle.checks.proofs.CheckLaws.{fails_by, holds_by}
use Rattle.checks.proofs.bounds.bounds_number.Goals as goal

pub returns-then-not-side_fine : goal.returns-then-not-side_fine
unfolding bounds_number bounds_refusals
returns-then-not-side_fine c = sym (refusal_here 1 _ (fails_by c.side_fine.ensures (ap not c.if-not-side_fine.true)))

pub returns-then-not-rules_and_end_fine : goal.returns-then-not-rules_and_end_fine
unfolding bounds_number bounds_refusals
returns-then-not-rules_and_end_fine c =
    sym
    (refusal_later 1 _ (holds_by c.side_fine.ensures (ap not c.if-not-side_fine.false))
    ∙ refusal_here 5 _ (fails_by c.rules_and_end_fine.ensures (ap not c.if-not-rules_and_end_fine.true)))

pub returns-then-clock-gt-LAST_CLOCK : goal.returns-then-clock-gt-LAST_CLOCK
unfolding bounds_number bounds_refusals
returns-then-clock-gt-LAST_CLOCK c =
    sym
    (refusal_later 1 _ (holds_by c.side_fine.ensures (ap not c.if-not-side_fine.false))
    ∙ (refusal_later 5 _ (holds_by c.rules_and_end_fine.ensures (ap not c.if-not-rules_and_end_fine.false))
    ∙ refusal_here 6 _ (lt-leb _ _ c.if-clock-gt-LAST_CLOCK.true)))

pub returns : goal.returns
unfolding bounds_number bounds_refusals
returns c =
    sym
    (passed_refusal _ (
      holds_by c.side_fine.ensures (ap not c.if-not-side_fine.false),
      (
        holds_by c.rules_and_end_fine.ensures (ap not c.if-not-rules_and_end_fine.false),
        (le-leb _ _ c.if-clock-gt-LAST_CLOCK.false, tt),
      ),
    ))
