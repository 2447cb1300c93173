-- `raster::reading::no_data_line` meets its contract: the word, its spaces, `-9999` and the end of the line.
-- Assumes nothing.
use mathlib.Core.Path.{ap, ◌∙◌}
use Rattle.raster.specs.Raster.{line_end_after}
use Rattle.raster.specs.Raster.{no_data_at}
use Rattle.raster.proofs.HeadLaws.{head_none, head_some}
use Rattle.raster.proofs.reading.no_data_line.Goals as goal

pub returns-then-start-at : goal.returns-then-start-at
returns-then-start-at c =
    let a = c.args in
    head_none a.text.now a.at a.word.now (no_data_at a.text.now) c.value_start-start.ensures c.if-start-at.true

pub returns : goal.returns
returns c =
    let a = c.args in
    c.line_end_after.ensures ∙ (ap (line_end_after a.text.now) c.no_data_at.ensures
    ∙ head_some a.text.now a.at a.word.now (no_data_at a.text.now) c.value_start-start.ensures c.if-start-at.false)
