-- `sight::refusals::shared_refusal` meets its contract: the first test that fails gives its number.
-- Assumes nothing.
use mathlib.Core.Path.{sym, ◌∙◌}
use Rattle.reckon.proofs.TestLaws.{refusal_here, refusal_later, passed_refusal}
use Rattle.sight.specs.Refusals.{shared_refusals}
use Rattle.sight.proofs.RefusalLaws.{sized}
use Rattle.sight.proofs.refusals.shared_refusal.Goals as goal

pub returns-then-not-seen_sizes_fine : goal.returns-then-not-seen_sizes_fine
unfolding shared_refusals
returns-then-not-seen_sizes_fine c = sym (refusal_here 1 _ (sym c.seen_sizes_fine.ensures ∙ c.if-not-seen_sizes_fine.true))

pub returns-then-not-more : goal.returns-then-not-more
unfolding shared_refusals
returns-then-not-more c =
    sym (refusal_later 1 _ (sym c.seen_sizes_fine.ensures ∙ c.if-not-seen_sizes_fine.false) ∙ refusal_here 1 _
    (c.if-not-more.true))

pub marks_fine-requires : goal.marks_fine-requires
marks_fine-requires c =
    let sizes = sized _ _ (sym c.seen_sizes_fine.ensures ∙ c.if-not-seen_sizes_fine.false) in
    record { fine = sizes.fine; whole = sizes.marks_long }

pub returns-then-not-marks_fine : goal.returns-then-not-marks_fine
unfolding shared_refusals
returns-then-not-marks_fine c =
    sym
    (refusal_later 1 _ (sym c.seen_sizes_fine.ensures ∙ c.if-not-seen_sizes_fine.false)
    ∙ (refusal_later 1 _ (c.if-not-more.false) ∙ refusal_here 2 _
    (sym c.marks_fine.ensures ∙ c.if-not-marks_fine.true)))

pub depths_fine-requires : goal.depths_fine-requires
depths_fine-requires c = sized _ _ (sym c.seen_sizes_fine.ensures ∙ c.if-not-seen_sizes_fine.false)

pub returns-then-not-depths_fine : goal.returns-then-not-depths_fine
unfolding shared_refusals
returns-then-not-depths_fine c =
    sym
    (refusal_later 1 _ (sym c.seen_sizes_fine.ensures ∙ c.if-not-seen_sizes_fine.false)
    ∙ (refusal_later 1 _ (c.if-not-more.false)
    ∙ (refusal_later 2 _ (sym c.marks_fine.ensures ∙ c.if-not-marks_fine.false) ∙ refusal_here 3 _
    (sym c.depths_fine.ensures ∙ c.if-not-depths_fine.true))))

pub returns : goal.returns
unfolding shared_refusals
returns c =
    let sizes = sym c.seen_sizes_fine.ensures ∙ c.if-not-seen_sizes_fine.false in
    let more = c.if-not-more.false in
    let marks = sym c.marks_fine.ensures ∙ c.if-not-marks_fine.false in
    let depths = sym c.depths_fine.ensures ∙ c.if-not-depths_fine.false in
    sym (passed_refusal _ (sizes, (more, (marks, (depths, tt)))))
