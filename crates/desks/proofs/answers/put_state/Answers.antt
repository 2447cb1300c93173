use Rattle.ledger.specs.Runs.{plan}
use Rattle.desks.proofs.AnswerParts.{figures_as, state_put}
use Rattle.desks.proofs.answers.put_state.Goals as goal

-- src/answers.rt:54:1
pub returns : goal.returns
returns c =
    let a = c.args in
    state_put (plan a.shape a.marks.now) a.log a.account a.depths.now
    (figures_as (plan a.shape a.marks.now) a.log a.account a.depths.now c.figures_of-figures.ensures c.kept_slots.ensures
    c.water_on-ground.ensures) c.put_first.ensures
