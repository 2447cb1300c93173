use Rattle.ledger.specs.Runs.{plan}
use Rattle.desks.proofs.AnswerLaws.{last-tried, last-shown}
use Rattle.desks.proofs.lines.last_line.Goals as goal

-- src/lines.rt:169:9
pub returns-then-every : goal.returns-then-every
returns-then-every c =
    let a = c.args in
    λ l k b. last-tried a.tried (plan a.desk.heading.shape a.marks.now) a.depths.now l k b a.every
    c.if-every.true c.tried_line.ensures

-- src/lines.rt:157:1
pub returns : goal.returns
returns c =
    let a = c.args in
    λ l k b. last-shown a.tried (plan a.desk.heading.shape a.marks.now) a.depths.now l k b a.every
    c.if-every.false c.shown_line.ensures
