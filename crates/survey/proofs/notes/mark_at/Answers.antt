-- `survey::notes::mark_at` meets its contract: the three lines are tried in the marks' order.
-- Assumes nothing.
use mathlib.Core.Path.{sym, ◌∙◌}
use Rattle.survey.proofs.NoteLaws.{mark_first, mark_second, mark_third, mark_none}
use Rattle.survey.proofs.notes.mark_at.Goals as goal

pub returns-then-line_stands : goal.returns-then-line_stands
returns-then-line_stands c = mark_first _ _ _ _ (sym c.line_stands.ensures ∙ c.if-line_stands.true)

pub returns-then-line_stands-2 : goal.returns-then-line_stands-2
returns-then-line_stands-2 c =
    mark_second _ _ _ _ (sym c.line_stands.ensures ∙ c.if-line_stands.false)
    (sym c.line_stands-2.ensures ∙ c.if-line_stands-2.true)

pub returns-then-line_stands-3 : goal.returns-then-line_stands-3
returns-then-line_stands-3 c =
    mark_third _ _ _ _ (sym c.line_stands.ensures ∙ c.if-line_stands.false)
    (sym c.line_stands-2.ensures ∙ c.if-line_stands-2.false)
    (sym c.line_stands-3.ensures ∙ c.if-line_stands-3.true)

pub returns : goal.returns
returns c =
    mark_none _ _ _ _ (sym c.line_stands.ensures ∙ c.if-line_stands.false)
    (sym c.line_stands-2.ensures ∙ c.if-line_stands-2.false)
    (sym c.line_stands-3.ensures ∙ c.if-line_stands-3.false)
