-- `raster::reading::value_start` meets its contract: after the word and its spaces.
-- Assumes nothing.
use mathlib.Core.Path.{sym, ◌∙◌}
use native.Mathlib.Omega.{arith}
use Rattle.reckon.proofs.TestLaws.{pick_true, pick_false, and_both, and_false}
use Rattle.text.specs.Reading.{word_at}
use Rattle.text.proofs.ReadingLaws.{word_within}
use Rattle.raster.proofs.SpaceLaws.{and_no}
use Rattle.raster.proofs.reading.value_start.Goals as goal

pub returns-then-not-word_at : goal.returns-then-not-word_at
returns-then-not-word_at c = sym (pick_false _ _ (and_no _ _ (sym c.word_at.ensures ∙ c.if-not-word_at.true)))

pub overflow_add-after : goal.overflow_add-after
overflow_add-after c =
    let a = c.args in
    omega (arith, word_within a.text.now a.at a.word.now (sym c.word_at.ensures ∙ c.if-not-word_at.false))

pub returns-then-not-byte_is : goal.returns-then-not-byte_is
returns-then-not-byte_is c =
    let a = c.args in
    sym (pick_false _ _ (and_false (word_at a.text.now a.at a.word.now) _
    (sym c.byte_is.ensures ∙ c.if-not-byte_is.true)))

pub returns : goal.returns
returns c =
    c.past_spaces.ensures ∙ sym
    (pick_true _ _ (and_both _ _ (sym c.word_at.ensures ∙ c.if-not-word_at.false)
    (sym c.byte_is.ensures ∙ c.if-not-byte_is.false)))
