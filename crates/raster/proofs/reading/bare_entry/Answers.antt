-- `raster::reading::bare_entry` meets its contract: `-9999`, a number, or neither.
-- Assumes nothing.
use mathlib.Core.Path.{sym, ◌∙◌}
use native.Mathlib.Omega.{arith}
use Rattle.reckon.proofs.TestLaws.{pick_true}
use Rattle.text.specs.Bytes.{bytes_of}
use Rattle.text.proofs.ReadingLaws.{word_within}
use Rattle.raster.specs.Raster.{bare_entry}
use Rattle.raster.proofs.SquareLaws.{bare_none, bare_some}
use Rattle.raster.proofs.reading.bare_entry.Goals as goal

pub overflow_add-result : goal.overflow_add-result
overflow_add-result c =
    let a = c.args in
    omega (arith, word_within a.text.now a.at _ (sym c.word_at.ensures ∙ c.if-word_at.true))

pub returns-then-word_at : goal.returns-then-word_at
unfolding bare_entry bytes_of
returns-then-word_at c = sym (pick_true _ _ (sym c.word_at.ensures ∙ c.if-word_at.true))

pub returns-in_err-amount : goal.returns-in_err-amount
unfolding bytes_of
returns-in_err-amount c =
    let a = c.args in
    c.from_residual.ensures
    ∙ sym (bare_none a.scale a.text.now a.at (sym c.word_at.ensures ∙ c.if-word_at.false) (sym c.in_err-amount.ensures))

pub returns : goal.returns
unfolding bytes_of
returns c =
    let a = c.args in
    sym (bare_some a.scale a.text.now a.at (sym c.word_at.ensures ∙ c.if-word_at.false) (sym c.in_ok-amount.ensures))
