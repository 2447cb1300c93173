-- `text::reading::line_of` meets its contract: the word, and then the rest of the line, each decide.
-- Assumes nothing.
use mathlib.Core.Path.{sym, ap, ◌∙◌}
use native.Mathlib.Omega.{arith}
use Rattle.reckon.proofs.TestLaws.{pick_true, pick_false}
use Rattle.text.specs.Reading.{read_line, as_fields}
use Rattle.text.proofs.ReadingLaws.{word_within}
use Rattle.text.proofs.reading.line_of.Goals as goal

pub returns-then-not-word_at : goal.returns-then-not-word_at
unfolding read_line as_fields
returns-then-not-word_at c = sym (ap as_fields (pick_false _ _ (sym c.word_at.ensures ∙ c.if-not-word_at.true)))

pub overflow_add-at : goal.overflow_add-at
overflow_add-at c =
    let a = c.args in
    omega
    (arith, word_within a.text.now a.at a.word.now (sym c.word_at.ensures ∙ c.if-not-word_at.false))

pub returns : goal.returns
unfolding read_line
returns c =
    c.rest_of_line.ensures ∙ ap as_fields (sym (pick_true _ _ (sym c.word_at.ensures ∙ c.if-not-word_at.false)))
