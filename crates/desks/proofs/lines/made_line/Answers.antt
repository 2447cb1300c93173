use Rattle.ledger.specs.Runs.{plan}
use Rattle.desks.proofs.AnswerLaws.{made_unshown, made_shown}
use Rattle.desks.proofs.lines.made_line.Goals as goal

-- src/lines.rt:203:9
pub returns-then-not-series : goal.returns-then-not-series
returns-then-not-series c =
    let a = c.args in
    λ l k b. made_unshown a.tried (plan a.desk.heading.shape a.marks.now) a.depths.now l k b a.desk a.series
    c.one_less.ensures c.if-not-series.true c.desk_with.ensures

-- src/lines.rt:188:1
pub returns : goal.returns
returns c =
    let a = c.args in
    λ l k b. made_shown a.tried (plan a.desk.heading.shape a.marks.now) a.depths.now l k b a.desk a.series
    c.one_less-2.ensures c.if-not-series.false c.put_state-length.ensures c.desk_with-2.ensures
