use mathlib.Core.Path.{sym}
use native.Mathlib.Omega.{arith}
use Rattle.frames.specs.Bounds.{most_bounds}
use Rattle.desks.proofs.OtherLaws.{ending_fits, most_short, most-told, text_told}
use Rattle.desks.proofs.lines.most_line.Goals as goal

-- src/lines.rt:380:9
pub put_ending-length-requires : goal.put_ending-length-requires
put_ending-length-requires c =
    let a = c.args in
    ending_fits most_bounds c.put_bounds-at.ensures
    (most_short a.desk.heading.rules a.desk.log.run.clock a.end c.step_bounds-bounds.ensures) (sym c.requires) (omega arith)

-- src/lines.rt:371:1
pub returns : goal.returns
returns c =
    let a = c.args in
    λ p d l k b. most-told p a.end d l k b c.step_bounds-bounds.ensures c.bounds_number.ensures
    (text_told most_bounds c.put_bounds-at.ensures
    (most_short a.desk.heading.rules a.desk.log.run.clock a.end c.step_bounds-bounds.ensures) (sym c.requires) (omega arith)
    c.put_ending-length.ensures c.desk_still.ensures)
