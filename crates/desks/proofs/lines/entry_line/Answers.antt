use Rattle.desks.specs.Lines.{entry_told}
use Rattle.desks.proofs.OtherLaws.{as_told, entry_as}
use Rattle.desks.proofs.lines.entry_line.Goals as goal

-- src/lines.rt:449:1
pub returns-in-Hatch : goal.returns-in-Hatch
unfolding entry_told
returns-in-Hatch c =
    let a = c.args in
    entry_as _ _ _ _ _ c.in-Hatch.is
    (c.hatch_line.ensures a.depths.now a.lasts.now a.records.now a.began.now)

-- src/lines.rt:449:1
pub returns-in-Back : goal.returns-in-Back
unfolding entry_told
returns-in-Back c = entry_as _ _ _ _ _ c.in-Back.is c.back_line.ensures

-- src/lines.rt:449:1
pub returns-in-Rate : goal.returns-in-Rate
unfolding entry_told
returns-in-Rate c =
    let a = c.args in
    entry_as _ _ _ _ _ c.in-Rate.is
    (as_told a.depths.now a.lasts.now a.records.now a.began.now c.refuse_line.ensures)

-- src/lines.rt:449:1
