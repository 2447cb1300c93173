-- `hatches::refusals::said_number` meets its contract: the tests are made in the table's order, and the first that fails is given.
-- Assumes nothing.
use mathlib.Core.Path.{ap}
use mathlib.Core.Bool.{not}
use mathlib.Core.Path.{sym, ◌∙◌}
use Rattle.reckon.proofs.TestLaws.{refusal_here, refusal_later, passed_refusal}
use Rattle.checks.proofs.CheckLaws.{fails_by, holds_by}
use Rattle.hatches.specs.Log.{entry_refusals}
use Rattle.hatches.proofs.RefusalLaws.{lent_is}
use Rattle.hatches.proofs.refusals.said_number.Goals as goal

pub returns-then-not-line_fine : goal.returns-then-not-line_fine
unfolding entry_refusals
returns-then-not-line_fine c = λ beds roughness rates rain lasts. sym (refusal_here 12 _ (fails_by c.line_fine.ensures (ap not c.if-not-line_fine.true)))

pub returns-then-not-lent_fine : goal.returns-then-not-lent_fine
unfolding entry_refusals
returns-then-not-lent_fine c =
    λ beds roughness rates rain lasts.
    sym
    (refusal_later 12 _ (holds_by c.line_fine.ensures (ap not c.if-not-line_fine.false))
    ∙ refusal_here 1 _ (fails_by c.lent_fine.ensures (ap not c.if-not-lent_fine.true)))

pub draw_fine-requires : goal.draw_fine-requires
draw_fine-requires c = let l = lent_is _ _ _ _ (holds_by c.lent_fine.ensures (ap not c.if-not-lent_fine.false)) in (l.shape, l.marks_long)

pub returns-then-not-draw_fine : goal.returns-then-not-draw_fine
unfolding entry_refusals
returns-then-not-draw_fine c =
    λ beds roughness rates rain lasts.
    sym
    (refusal_later 12 _ (holds_by c.line_fine.ensures (ap not c.if-not-line_fine.false))
    ∙ (refusal_later 1 _ (holds_by c.lent_fine.ensures (ap not c.if-not-lent_fine.false))
    ∙ refusal_here 4 _ (fails_by c.draw_fine.ensures (ap not c.if-not-draw_fine.true))))

pub returns-then-not-standing_fine : goal.returns-then-not-standing_fine
unfolding entry_refusals
returns-then-not-standing_fine c =
    λ beds roughness rates rain lasts.
    sym
    (refusal_later 12 _ (holds_by c.line_fine.ensures (ap not c.if-not-line_fine.false))
    ∙ (refusal_later 1 _ (holds_by c.lent_fine.ensures (ap not c.if-not-lent_fine.false))
    ∙ (refusal_later 4 _ (holds_by c.draw_fine.ensures (ap not c.if-not-draw_fine.false))
    ∙ refusal_here 6 _ (fails_by c.standing_fine.ensures (ap not c.if-not-standing_fine.true)))))

pub returns-then-not-kept_fine : goal.returns-then-not-kept_fine
unfolding entry_refusals
returns-then-not-kept_fine c =
    λ beds roughness rates rain lasts.
    sym
    (refusal_later 12 _ (holds_by c.line_fine.ensures (ap not c.if-not-line_fine.false))
    ∙ (refusal_later 1 _ (holds_by c.lent_fine.ensures (ap not c.if-not-lent_fine.false))
    ∙ (refusal_later 4 _ (holds_by c.draw_fine.ensures (ap not c.if-not-draw_fine.false))
    ∙ (refusal_later 6 _ (holds_by c.standing_fine.ensures (ap not c.if-not-standing_fine.false))
    ∙ refusal_here 10 _ (fails_by c.kept_fine.ensures (ap not c.if-not-kept_fine.true))))))

pub returns : goal.returns
unfolding entry_refusals
returns c =
    λ beds roughness rates rain lasts.
    sym
    (passed_refusal _ (
      holds_by c.line_fine.ensures (ap not c.if-not-line_fine.false),
      (
        holds_by c.lent_fine.ensures (ap not c.if-not-lent_fine.false),
        (holds_by c.draw_fine.ensures (ap not c.if-not-draw_fine.false), (holds_by c.standing_fine.ensures (ap not c.if-not-standing_fine.false), (holds_by c.kept_fine.ensures (ap not c.if-not-kept_fine.false), tt))),
      ),
    ))
