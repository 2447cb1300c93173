-- `raster::reading::squares_end` meets its contract: each square so far was read, and the position is that of the next.
-- Assumes nothing.
use mathlib.Core.Path.{sym, ap, ◌∙◌}
use mathlib.Core.Bool.{true}
use native.Mathlib.Nat.{mul-le-mul}
use native.Mathlib.Omega.{arith}
use Rattle.std.proofs.Common.{is_some}
use Rattle.std.proofs.lemmas.Result.{err_from_is_err_and}
use Rattle.raster.proofs.HeadLaws.{was_some, was_none}
use Rattle.raster.proofs.RangeLaws.{some_column}
use Rattle.raster.proofs.SquareLaws.{read_none, entry_here, read_more, stops_here, stops_whole}
use Rattle.raster.proofs.reading.squares_end.Goals as goal

pub loop-square-init : goal.loop-square-init
loop-square-init c = read_none _ _ _ _ _

pub last_in_row-requires : goal.last_in_row-requires
last_in_row-requires c =
    let a = c.args in
    (some_column a.shape.rows a.shape.columns c.loop-square-test.true, omega (arith, mul-le-mul c.requires.0 c.requires.1))

pub returns-in_err-entry : goal.returns-in_err-entry
returns-in_err-entry c =
    let a = c.args in
    let l = c.loop-square.invariant in
    let p = err_from_is_err_and c.from_residual.result c.from_residual.ensures.1 in
    let n = was_none _ c.in_err-entry.ensures.value in
    rw (p.1, p.2, n.1)
    (stops_here a.scale a.text.now a.at a.shape l (omega arith)
    (ap is_some (sym (entry_here _ _ _ _ _ l c.last_in_row.ensures c.entry_at.ensures) ∙ n.0)))

pub loop-square-preserved : goal.loop-square-preserved
loop-square-preserved c =
    read_more _ _ _ _ _ c.loop-square.invariant c.last_in_row.ensures
    (sym (was_some _ c.in_ok-entry.ensures.value) ∙ c.entry_at.ensures) (omega arith) (λ j. true)

pub returns : goal.returns
returns c =
    let a = c.args in
    stops_whole a.scale a.text.now a.at a.shape c.loop-square.invariant c.loop-square-test.false
