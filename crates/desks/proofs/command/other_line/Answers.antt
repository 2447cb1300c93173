use Rattle.sheet.specs.Sheet.{rooms}
use Rattle.evenings.specs.Program.{stores}
use Rattle.desks.proofs.LeftLaws.{other_refused, other_told}
use Rattle.desks.proofs.command.other_line.Goals as goal

-- src/command.rt:188:9
pub returns-then-number-ne0 : goal.returns-then-number-ne0
returns-then-number-ne0 c =
    let a = c.args in
    λ beds roughness rates rain. other_refused a.desk
    (stores (rooms a.marks.now beds roughness rates a.depths.now rain a.inflow.now) a.lasts.now a.records.now a.began.now)
    a.text.now a.order c.refused_at_once-number.ensures c.if-number-ne0.true
    c.refuse_line.ensures

-- src/command.rt:171:1
pub returns : goal.returns
returns c =
    let a = c.args in
    λ beds roughness rates rain. other_told a.desk
    (stores (rooms a.marks.now beds roughness rates a.depths.now rain a.inflow.now) a.lasts.now a.records.now a.began.now)
    a.text.now a.order c.refused_at_once-number.ensures c.if-number-ne0.false (c.line_held.ensures beds roughness rates rain)
