use Rattle.ledger.specs.Runs.{plan}
use Rattle.desks.proofs.OtherLaws.{account_as}
use Rattle.desks.proofs.lines.laid_line.Goals as goal

-- src/lines.rt:403:1
pub returns : goal.returns
returns c =
    let a = c.args in
    account_as (plan a.desk.heading.shape a.marks.now) a.depths.now c.open_account-account.ensures
    c.shown_line.ensures
