-- `survey::sets::closed_agree` meets its contract: the squares passed agree, and both positions are those of the next.
-- Assumes nothing.
use mathlib.Core.Bool.{Bool}
use Rattle.survey.specs.Inner.Notes.{closed_same}
use mathlib.Core.Path.{ap, sym, ◌∙◌}
use Rattle.survey.proofs.SetLaws.{agreeing_none, same_here, agreeing_more, closed_differ, closed-agree}
use Rattle.survey.proofs.sets.closed_agree.Goals as goal

pub loop-square-init : goal.loop-square-init
loop-square-init c = agreeing_none _ _ _ _ _ _ c.requires.0

pub returns-then-not-closed_same : goal.returns-then-not-closed_same
returns-then-not-closed_same c =
    closed_differ _ _ _ _ _ c.args.shape c.loop-square-test.true
    (sym
    (same_here _ _ _ _ _ _ c.loop-square.invariant c.entry_at-entry.ensures c.mark_at.ensures
    (c.closed_same.ensures ∙ ap (λ (b : Bool). closed_same b c.mark_at.result) c.is_shut.ensures))
    ∙ c.if-not-closed_same.true)

pub loop-square-preserved : goal.loop-square-preserved
loop-square-preserved c =
    rw c.next_of-next.ensures
    (agreeing_more _ _ _ _ _ _ c.loop-square.invariant c.entry_at-entry.ensures c.mark_at.ensures
    (c.closed_same.ensures ∙ ap (λ (b : Bool). closed_same b c.mark_at.result) c.is_shut.ensures)
    (c.if-not-closed_same.false) c.next_line-line.ensures)

pub returns : goal.returns
returns c = closed-agree _ _ _ _ _ c.args.shape c.loop-square-test.false c.loop-square.invariant.so_far
