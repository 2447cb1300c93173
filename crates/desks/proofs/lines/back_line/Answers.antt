use Rattle.ledger.specs.Runs.{plan}
use Rattle.hatches.specs.Log.{evening}
use native.Mathlib.Omega.{arith}
use Rattle.desks.proofs.AnswerLaws.{trial_lent, shows_on, back_refused, back_shown}
use Rattle.desks.proofs.lines.back_line.Goals as goal

-- src/lines.rt:110:9
pub back-tried-requires : goal.back-tried-requires
back-tried-requires c = trial_lent c.requires

-- src/lines.rt:122:9
pub tried_line-requires : goal.tried_line-requires
tried_line-requires c = omega (arith, c.requires.shows.out_long)

-- src/lines.rt:122:9
pub returns-then-tried-ne0 : goal.returns-then-tried-ne0
returns-then-tried-ne0 c =
    let a = c.args in
    back_refused (plan a.desk.heading.shape a.marks.now)
    (evening a.depths.now a.lasts.now a.records.now a.began.now a.desk.log) a.desk.account a.count c.back-tried.result
    c.back-tried.ensures (λ z. c.if-tried-ne0.true z) c.tried_line.ensures

-- src/lines.rt:124:5
pub shown_line-requires : goal.shown_line-requires
shown_line-requires c = shows_on c.requires.shows c.back-tried.auto.depths

-- src/lines.rt:94:1
pub returns : goal.returns
returns c =
    let a = c.args in
    back_shown (plan a.desk.heading.shape a.marks.now)
    (evening a.depths.now a.lasts.now a.records.now a.began.now a.desk.log) a.desk.account a.count c.back-tried.result
    c.back-tried.ensures c.if-tried-ne0.false c.shown_line.ensures
