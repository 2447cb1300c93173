-- `raster::reading::entry_at` meets its contract: what stands there, and what parts it from the next.
-- Assumes nothing.
use mathlib.Core.Path.{sym, ap, ◌∙◌}
use Rattle.raster.specs.Raster.{parted}
use Rattle.raster.proofs.SquareLaws.{gap_none, gap_some}
use Rattle.raster.proofs.reading.entry_at.Goals as goal

pub returns-in_err-entry : goal.returns-in_err-entry
unfolding parted
returns-in_err-entry c = c.from_residual.ensures ∙ ap (parted c.args.text.now c.args.last) c.in_err-entry.ensures

pub returns-then-next-entry : goal.returns-then-next-entry
returns-then-next-entry c =
    let a = c.args in
    sym (gap_none a.text.now a.last _ c.past_gap-next.ensures c.if-next-entry.true)
    ∙ ap (parted a.text.now a.last) c.in_ok-entry.ensures

pub returns : goal.returns
returns c =
    let a = c.args in
    sym (gap_some a.text.now a.last _ c.past_gap-next.ensures c.if-next-entry.false)
    ∙ ap (parted a.text.now a.last) c.in_ok-entry.ensures
