-- `checks::fresh::fresh_number` meets its contract: the tests are made in the table's order, and the first that fails is given.
-- Assumes nothing.
use mathlib.Core.Path.{sym, ap, ◌∙◌}
use mathlib.Core.Bool.{not}
use borrow.Author.Tests.{eq-eqb, ne_eqb}
use Rattle.reckon.proofs.TestLaws.{refusal_here, refusal_later, passed_refusal}
use Rattle.ledger.specs.Record.{room_slots}
use Rattle.checks.specs.Fresh.{fresh_number, fresh_refusals}
use Rattle.checks.proofs.CheckLaws.{fails_by, holds_by}
use Rattle.checks.proofs.FreshLaws.{sizes_marked}
use Rattle.checks.proofs.fresh.fresh_number.Goals as goal

pub returns-then-not-fresh_sizes_fine : goal.returns-then-not-fresh_sizes_fine
unfolding fresh_number fresh_refusals
returns-then-not-fresh_sizes_fine c = sym (refusal_here 1 _ (fails_by c.fresh_sizes_fine.ensures (ap not c.if-not-fresh_sizes_fine.true)))

pub marks_fine-requires : goal.marks_fine-requires
marks_fine-requires c = sizes_marked _ _ _ _ (holds_by c.fresh_sizes_fine.ensures (ap not c.if-not-fresh_sizes_fine.false))

pub returns-then-not-marks_fine : goal.returns-then-not-marks_fine
unfolding fresh_number fresh_refusals
returns-then-not-marks_fine c = sym (refusal_later 1 _ (holds_by c.fresh_sizes_fine.ensures (ap not c.if-not-fresh_sizes_fine.false)) ∙ refusal_here 2 _ (fails_by c.marks_fine.ensures (ap not c.if-not-marks_fine.true)))

pub returns-then-not-rules_fine : goal.returns-then-not-rules_fine
unfolding fresh_number fresh_refusals
returns-then-not-rules_fine c =
    sym
    (refusal_later 1 _ (holds_by c.fresh_sizes_fine.ensures (ap not c.if-not-fresh_sizes_fine.false))
    ∙ (refusal_later 2 _ (holds_by c.marks_fine.ensures (ap not c.if-not-marks_fine.false)) ∙ refusal_here 5 _ (fails_by c.rules_fine.ensures (ap not c.if-not-rules_fine.true))))

pub slots_of-requires : goal.slots_of-requires
slots_of-requires c = (sizes_marked _ _ _ _ (holds_by c.fresh_sizes_fine.ensures (ap not c.if-not-fresh_sizes_fine.false))).fine

pub returns-then-slots_of-eq0 : goal.returns-then-slots_of-eq0
unfolding fresh_number fresh_refusals room_slots
returns-then-slots_of-eq0 c =
    sym
    (refusal_later 1 _ (holds_by c.fresh_sizes_fine.ensures (ap not c.if-not-fresh_sizes_fine.false))
    ∙ (refusal_later 2 _ (holds_by c.marks_fine.ensures (ap not c.if-not-marks_fine.false))
    ∙ (refusal_later 5 _ (holds_by c.rules_fine.ensures (ap not c.if-not-rules_fine.false)) ∙ refusal_here 6 _ (ap not (eq-eqb _ _ (sym c.slots_of.ensures ∙ c.if-slots_of-eq0.true))))))

pub returns : goal.returns
unfolding fresh_number fresh_refusals room_slots
returns c =
    sym
    (passed_refusal _ (
      holds_by c.fresh_sizes_fine.ensures (ap not c.if-not-fresh_sizes_fine.false),
      (
        holds_by c.marks_fine.ensures (ap not c.if-not-marks_fine.false),
        (
          holds_by c.rules_fine.ensures (ap not c.if-not-rules_fine.false),
          (ap not (ne_eqb _ _ (λ z. c.if-slots_of-eq0.false (c.slots_of.ensures ∙ z))), tt),
        ),
      ),
    ))
