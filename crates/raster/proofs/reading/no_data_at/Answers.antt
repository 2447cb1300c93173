-- `raster::reading::no_data_at` meets its contract: `-9999` or nothing.
-- Assumes nothing.
use mathlib.Core.Path.{sym, ◌∙◌}
use native.Mathlib.Omega.{arith}
use Rattle.reckon.proofs.TestLaws.{pick_true, pick_false}
use Rattle.text.specs.Bytes.{bytes_of}
use Rattle.text.proofs.ReadingLaws.{word_within}
use Rattle.raster.specs.Raster.{no_data_at}
use Rattle.raster.proofs.reading.no_data_at.Goals as goal

pub returns-then-not-word_at : goal.returns-then-not-word_at
unfolding no_data_at bytes_of
returns-then-not-word_at c = sym (pick_false _ _ (sym c.word_at.ensures ∙ c.if-not-word_at.true))

pub overflow_add-result : goal.overflow_add-result
overflow_add-result c = omega (arith, word_within _ _ _ (sym c.word_at.ensures ∙ c.if-not-word_at.false))

pub returns : goal.returns
unfolding no_data_at bytes_of
returns c = sym (pick_true _ _ (sym c.word_at.ensures ∙ c.if-not-word_at.false))
