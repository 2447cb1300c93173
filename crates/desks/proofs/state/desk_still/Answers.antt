use mathlib.Core.Path.{ap, ◌∙◌}
use Rattle.desks.specs.State.{desk_with}
use Rattle.desks.specs.declared.state.Series.{Series}
use Rattle.desks.proofs.state.desk_still.Goals as goal

-- src/state.rt:153:1
pub returns : goal.returns
returns c =
    let a = c.args in
    c.desk_with.ensures ∙ ap (λ (s : Series). desk_with a.desk a.desk.log a.desk.account s a.length) c.no_series.ensures
