-- `raster::reading::past_gap` meets its contract: a newline or spaces.
-- Assumes nothing.
use mathlib.Core.Path.{sym, ◌∙◌}
use native.Mathlib.Omega.{arith}
use Rattle.reckon.proofs.TestLaws.{pick_true, pick_false}
use Rattle.text.proofs.ReadingLaws.{byte_within}
use Rattle.raster.specs.Raster.{past_gap}
use Rattle.raster.proofs.reading.past_gap.Goals as goal

pub returns-then-not-last : goal.returns-then-not-last
unfolding past_gap
returns-then-not-last c = c.past_spaces.ensures ∙ sym (pick_false _ _ c.if-not-last.true)

pub overflow_add-result : goal.overflow_add-result
overflow_add-result c =
    let a = c.args in
    omega (arith, byte_within a.text.now a.at 10 (sym c.byte_is.ensures ∙ c.if-byte_is.true))

pub returns-then-byte_is : goal.returns-then-byte_is
unfolding past_gap
returns-then-byte_is c = sym (pick_true _ _ c.if-not-last.false ∙ pick_true _ _ (sym c.byte_is.ensures ∙ c.if-byte_is.true))

pub returns : goal.returns
unfolding past_gap
returns c = sym (pick_true _ _ c.if-not-last.false ∙ pick_false _ _ (sym c.byte_is.ensures ∙ c.if-byte_is.false))
