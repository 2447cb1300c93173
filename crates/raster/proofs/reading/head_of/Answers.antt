-- `raster::reading::head_of` meets its contract: the six lines in their order, up to the first that cannot be read.
-- Assumes nothing.
use mathlib.Core.Path.{sym, ◌∙◌}
use Rattle.std.proofs.lemmas.Result.{err_from_is_err_and}
use Rattle.text.specs.Bytes.{bytes_of}
use Rattle.raster.specs.Raster.{head_of}
use Rattle.raster.proofs.HeadLaws.{was_some, was_none}
use Rattle.raster.proofs.reading.head_of.Goals as goal

pub returns-in_err-columns : goal.returns-in_err-columns
unfolding head_of bytes_of
returns-in_err-columns c =
    let p = err_from_is_err_and c.from_residual.result c.from_residual.ensures.1 in
    let n = was_none _ c.in_err-columns.ensures.value in
    rw (
      p.1,
      p.2,
      n.1,
      sym c.head_line.ensures ∙ n.0,
    )

pub returns-in_err-rows : goal.returns-in_err-rows
unfolding head_of bytes_of
returns-in_err-rows c =
    let p = err_from_is_err_and c.from_residual-in_err-rows.result c.from_residual-in_err-rows.ensures.1 in
    let n = was_none _ c.in_err-rows.ensures.value in
    rw (
      p.1,
      p.2,
      n.1,
      sym c.head_line.ensures ∙ was_some _ c.in_ok-columns.ensures.value,
      sym c.head_line-2.ensures ∙ n.0,
    )

pub returns-in_err-x : goal.returns-in_err-x
unfolding head_of bytes_of
returns-in_err-x c =
    let p = err_from_is_err_and c.from_residual-in_err-x.result c.from_residual-in_err-x.ensures.1 in
    let n = was_none _ c.in_err-x.ensures.value in
    rw (
      p.1,
      p.2,
      n.1,
      sym c.head_line.ensures ∙ was_some _ c.in_ok-columns.ensures.value,
      sym c.head_line-2.ensures ∙ was_some _ c.in_ok-rows.ensures.value,
      sym c.corner_line.ensures ∙ n.0,
    )

pub returns-in_err-y : goal.returns-in_err-y
unfolding head_of bytes_of
returns-in_err-y c =
    let p = err_from_is_err_and c.from_residual-in_err-y.result c.from_residual-in_err-y.ensures.1 in
    let n = was_none _ c.in_err-y.ensures.value in
    rw (
      p.1,
      p.2,
      n.1,
      sym c.head_line.ensures ∙ was_some _ c.in_ok-columns.ensures.value,
      sym c.head_line-2.ensures ∙ was_some _ c.in_ok-rows.ensures.value,
      sym c.corner_line.ensures ∙ was_some _ c.in_ok-x.ensures.value,
      sym c.corner_line-2.ensures ∙ n.0,
    )

pub returns-in_err-side : goal.returns-in_err-side
unfolding head_of bytes_of
returns-in_err-side c =
    let p = err_from_is_err_and c.from_residual-in_err-side.result c.from_residual-in_err-side.ensures.1 in
    let n = was_none _ c.in_err-side.ensures.value in
    rw (
      p.1,
      p.2,
      n.1,
      sym c.head_line.ensures ∙ was_some _ c.in_ok-columns.ensures.value,
      sym c.head_line-2.ensures ∙ was_some _ c.in_ok-rows.ensures.value,
      sym c.corner_line.ensures ∙ was_some _ c.in_ok-x.ensures.value,
      sym c.corner_line-2.ensures ∙ was_some _ c.in_ok-y.ensures.value,
      sym c.head_line-3.ensures ∙ n.0,
    )

pub returns-in_err-no_data : goal.returns-in_err-no_data
unfolding head_of bytes_of
returns-in_err-no_data c =
    let p = err_from_is_err_and c.from_residual-in_err-no_data.result c.from_residual-in_err-no_data.ensures.1 in
    let n = was_none _ c.in_err-no_data.ensures.value in
    rw (
      p.1,
      p.2,
      n.1,
      sym c.head_line.ensures ∙ was_some _ c.in_ok-columns.ensures.value,
      sym c.head_line-2.ensures ∙ was_some _ c.in_ok-rows.ensures.value,
      sym c.corner_line.ensures ∙ was_some _ c.in_ok-x.ensures.value,
      sym c.corner_line-2.ensures ∙ was_some _ c.in_ok-y.ensures.value,
      sym c.head_line-3.ensures ∙ was_some _ c.in_ok-side.ensures.value,
      sym c.no_data_line.ensures ∙ n.0,
    )

pub returns : goal.returns
unfolding head_of bytes_of
returns c =
    rw (
      sym c.head_line.ensures ∙ was_some _ c.in_ok-columns.ensures.value,
      sym c.head_line-2.ensures ∙ was_some _ c.in_ok-rows.ensures.value,
      sym c.corner_line.ensures ∙ was_some _ c.in_ok-x.ensures.value,
      sym c.corner_line-2.ensures ∙ was_some _ c.in_ok-y.ensures.value,
      sym c.head_line-3.ensures ∙ was_some _ c.in_ok-side.ensures.value,
      sym c.no_data_line.ensures ∙ was_some _ c.in_ok-no_data.ensures.value,
    )
