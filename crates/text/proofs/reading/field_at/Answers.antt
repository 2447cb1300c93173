-- `text::reading::field_at` meets its contract: a tab, and the number after it.
-- Assumes nothing.
use mathlib.Core.Path.{sym, ◌∙◌}
use native.Mathlib.Omega.{arith}
use Rattle.reckon.proofs.TestLaws.{pick_true, pick_false}
use Rattle.text.specs.Reading.{field_at}
use Rattle.text.proofs.ReadingLaws.{byte_within}
use Rattle.text.proofs.reading.field_at.Goals as goal

pub returns-then-not-byte_is : goal.returns-then-not-byte_is
unfolding field_at
returns-then-not-byte_is c = sym (pick_false _ _ (sym c.byte_is.ensures ∙ c.if-not-byte_is.true))

pub overflow_add-at : goal.overflow_add-at
overflow_add-at c =
    let a = c.args in
    omega (arith, byte_within a.text.now a.at 9 (sym c.byte_is.ensures ∙ c.if-not-byte_is.false))

pub returns : goal.returns
unfolding field_at
returns c = c.number_at.ensures ∙ sym (pick_true _ _ (sym c.byte_is.ensures ∙ c.if-not-byte_is.false))
