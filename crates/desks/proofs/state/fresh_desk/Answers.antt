use native.Mathlib.Omega.{arith}
use Rattle.desks.proofs.StateLaws.{slots_some, desk_fresh}
use Rattle.desks.proofs.state.fresh_desk.Goals as goal

-- src/state.rt:120:9
pub fresh_run-run-requires : goal.fresh_run-run-requires
fresh_run-run-requires c = omega (arith, c.kept_slots.ensures, slots_some c.args.heading.shape c.requires)

-- src/state.rt:116:1
pub returns : goal.returns
returns c =
    let a = c.args in
    desk_fresh a.heading a.start a.length c.kept_slots.ensures
    c.fresh_run-run.ensures c.open_log.ensures c.open_account.ensures
    c.no_series.ensures
