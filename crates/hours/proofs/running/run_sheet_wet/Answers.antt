-- `hours::running::run_sheet_wet` meets its contract: the run starts from nothing, and its checks have passed.
-- Assumes nothing.
use Rattle.ledger.specs.Runs.{Plan, World, plan, world}
use Rattle.checks.specs.Given.{Given, ground, given}
use Rattle.checks.specs.Refusals.{run_checks}
use Rattle.checks.proofs.CheckLaws.{run_checks_step, run_checks_end, end_is}
use mathlib.Core.Path.{◌≡◌}
use Rattle.std.proofs.Common.{rules}
use Rattle.reckon.specs.Tests.{refusal}
use Rattle.flood.specs.Step.{Passes}
use Rattle.flood.proofs.StepLaws.{is_ready}
use Rattle.flood.proofs.KeptLaws.{kept_same}
use Rattle.sheet.specs.Sheet.{Rooms, rooms}
use Rattle.hours.specs.declared.running.Times.{Times}
use Rattle.hours.proofs.WetLaws.{none_fit, times_kept}
use Rattle.hours.proofs.HoursLaws.{sheet_passes, sheet_wet}
use Rattle.hours.proofs.running.run_sheet_wet.Goals as goal
use Rattle.hours.proofs.running.run_sheet_wet.Goals.{After-fresh_run-run, Start}

abbrev p : Start → Plan
p s = plan s.args.heading.shape s.args.marks.now

abbrev g : Start → Given
g s =
    given (ground s.args.heading.rules s.args.beds.now s.args.roughness.now s.args.rates.now) s.args.rain.now s.args.inflow.now

abbrev held : Start → Rooms
held s = rooms s.args.marks.now s.args.beds.now s.args.roughness.now s.args.rates.now s.args.depths.now s.args.rain.now s.args.inflow.now

abbrev w : After-fresh_run-run → World
w c = world c.args.depths.now c.args.lasts.now c.args.records.now c.fresh_run-run.result

passed : (c : After-fresh_run-run) → refusal (run_checks (p (goal.at.After-fresh_run-run c).Start) (g (goal.at.After-fresh_run-run c).Start) c.args.heading.end (w c)) ≡ 0
passed c = sheet_passes c.args.heading (held (goal.at.After-fresh_run-run c).Start) c.requires.lasts_value.0 c.requires.lasts_value.1 c.fresh_run-run.ensures c.requires.end_value

passes : (c : After-fresh_run-run) → Passes (p (goal.at.After-fresh_run-run c).Start) (g (goal.at.After-fresh_run-run c).Start) (w c)
passes c = record { checked = run_checks_step (p (goal.at.After-fresh_run-run c).Start) (g (goal.at.After-fresh_run-run c).Start) c.args.heading.end (w c) (passed c) }

pub run_kept-requires : goal.run_kept-requires
run_kept-requires c =
    let at = (goal.at.run_kept-requires c).After-fresh_run-run in
    let s = (goal.at.run_kept-requires c).Start in
    record {
      passes = passes at;
      apart_value = (c.rows_apart.ensures, (end_is c.args.heading.rules c.args.heading.end (run_checks_end (p s) (g s) c.args.heading.end (w at) (passed at))).0);
      kept_fits = none_fit c.requires.times_value;
    }

pub returns : goal.returns
returns c =
    let at = (goal.at.returns c).After-fresh_run-run in
    let s = (goal.at.returns c).Start in
    let kept = c.run_kept.ensures.kept in
    let steps = c.run_kept.result.steps in
    let same = kept_same _ (p s) (g s) (w at) (λ (t : Times). t.times.ghost_name) (λ depths before clock t t' e. e.0) steps kept in
    let even = (is_ready (p s) (g s) (w at) (passes at).checked).flows.lies.sited.marks_long in
    let times = times_kept (p s) (g s) (w at) even _ (λ (t : Times). t.times.now) (λ depths before clock t t' e. e.1) steps c.requires.times_value kept in
    sheet_wet c.args.heading (held s) c.requires.lasts_value.0 c.requires.lasts_value.1 c.fresh_run-run.ensures c.requires.end_value c.run_kept.ensures.ends
    (search rules)
