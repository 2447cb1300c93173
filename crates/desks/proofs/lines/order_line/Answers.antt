use Rattle.ledger.specs.Runs.{plan}
use Rattle.desks.specs.Lines.{order_told}
use Rattle.desks.proofs.OtherLaws.{as_told, order_as}
use Rattle.desks.proofs.lines.order_line.Goals as goal

-- src/lines.rt:480:1
pub returns-in-Entered : goal.returns-in-Entered
unfolding order_told
returns-in-Entered c = order_as _ _ _ _ _ _ c.in-Entered.is c.entry_line.ensures

-- src/lines.rt:480:1
pub returns-in-Draw : goal.returns-in-Draw
unfolding order_told
returns-in-Draw c =
    let a = c.args in
    order_as _ _ _ _ _ _ c.in-Draw.is
    (c.draw_line.ensures a.depths.now a.lasts.now a.records.now a.began.now)

-- src/lines.rt:480:1
pub returns-in-Step : goal.returns-in-Step
unfolding order_told
returns-in-Step c =
    let a = c.args in
    order_as _ _ _ _ _ _ c.in-Step.is
    (c.step_line.ensures (plan a.desk.heading.shape a.marks.now) a.depths.now a.lasts.now a.records.now
    a.began.now)

-- src/lines.rt:480:1
pub returns-in-Show : goal.returns-in-Show
unfolding order_told
returns-in-Show c =
    let a = c.args in
    order_as _ _ _ _ _ _ c.in-Show.is
    (as_told a.depths.now a.lasts.now a.records.now a.began.now c.show_line.ensures)

-- src/lines.rt:480:1
pub returns-in-Arrows : goal.returns-in-Arrows
unfolding order_told
returns-in-Arrows c = order_as _ _ _ _ _ _ c.in-Arrows.is (c.arrows_line.ensures c.args.lasts.now c.args.began.now)

-- src/lines.rt:480:1
pub returns-in-Most : goal.returns-in-Most
unfolding order_told
returns-in-Most c =
    let a = c.args in
    order_as _ _ _ _ _ _ c.in-Most.is
    (c.most_line.ensures (plan a.desk.heading.shape a.marks.now) a.depths.now a.lasts.now a.records.now
    a.began.now)

-- src/lines.rt:480:1
pub returns-in-Stand : goal.returns-in-Stand
unfolding order_told
returns-in-Stand c = order_as _ _ _ _ _ _ c.in-Stand.is (c.stand_line.ensures c.args.records.now c.args.began.now)

-- src/lines.rt:480:1
pub returns-in-Lay : goal.returns-in-Lay
unfolding order_told
returns-in-Lay c = order_as _ _ _ _ _ _ c.in-Lay.is (c.lay_line.ensures c.args.records.now c.args.began.now)

-- src/lines.rt:480:1
pub returns-in-Sheet : goal.returns-in-Sheet
unfolding order_told
returns-in-Sheet c =
    let a = c.args in
    order_as _ _ _ _ _ _ c.in-Sheet.is
    (as_told a.depths.now a.lasts.now a.records.now a.began.now c.refuse_line.ensures)

-- src/lines.rt:480:1
pub returns-in-NoOrder : goal.returns-in-NoOrder
unfolding order_told
returns-in-NoOrder c =
    let a = c.args in
    order_as _ _ _ _ _ _ c.in-NoOrder.is
    (as_told a.depths.now a.lasts.now a.records.now a.began.now c.refuse_line-in-NoOrder.ensures)
