-- `raster::reading::all_read` meets its contract: a header, all of its squares, and the end of the text.
-- Assumes nothing.
use mathlib.Core.Path.{sym, ap, subst}
use Rattle.std.proofs.lemmas.Result.{err_from_is_err_and}
use Rattle.raster.specs.Raster.{head_or}
use Rattle.raster.proofs.RangeLaws.{ShapeSmall, head_small}
use Rattle.raster.proofs.SquareLaws.{head_bad, squares_bad, more_bad, none_bad}
use Rattle.raster.proofs.reading.all_read.Goals as goal

pub returns-in_err-head : goal.returns-in_err-head
returns-in_err-head c =
    let p = err_from_is_err_and c.from_residual.result c.from_residual.ensures.1 in
    rw (p.1, p.2) (head_bad _ _ c.in_err-head.ensures)

pub squares_end-requires : goal.squares_end-requires
squares_end-requires c =
    let small = subst ShapeSmall (sym (ap head_or c.in_ok-head.ensures)) (head_small c.args.text.now) in
    (small.rows, small.columns)

pub returns-in_err-end : goal.returns-in_err-end
returns-in_err-end c =
    let r = c.from_residual-in_err-end in
    let p = err_from_is_err_and r.result r.ensures.1 in
    rw (p.1, p.2) (squares_bad _ _ c.in_ok-head.ensures c.in_err-end.ensures)

pub returns-then-end-text : goal.returns-then-end-text
returns-then-end-text c = more_bad _ _ c.in_ok-head.ensures c.in_ok-end.ensures c.if-end-text.true

pub returns : goal.returns
returns c = none_bad _ _ c.in_ok-head.ensures c.in_ok-end.ensures c.if-end-text.false
