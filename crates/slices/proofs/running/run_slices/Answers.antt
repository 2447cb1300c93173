-- `slices::running::run_slices` meets its contract: where each slice has come to is where the run in one has.
-- Assumes nothing.
use mathlib.Core.Path.{◌≡◌, refl, ◌∙◌}
use native.Mathlib.Omega.{arith}
use Rattle.reckon.specs.Tests.{refusal}
use Rattle.ledger.specs.Runs.{Plan, World, plan, world}
use Rattle.checks.specs.Given.{Given, ground, given}
use Rattle.checks.specs.Refusals.{run_checks}
use Rattle.sheet.specs.Sheet.{Rooms, rooms}
use Rattle.programs.proofs.RunLaws.{runs_sheet}
use Rattle.slices.proofs.SliceLaws.{update_some, within, come_first, come_on, come_few, come_refused, come_all, sheet_passes}
use Rattle.slices.proofs.running.run_slices.Goals as goal
use Rattle.slices.proofs.running.run_slices.Given.{Over}
use Rattle.slices.proofs.running.run_slices.Goals.{After-fresh_run-at, Start}

-- ---- what is known there

abbrev p : (o : Over) → Start o → Plan
p o s = plan s.args.heading.shape s.args.marks.now

abbrev g : (o : Over) → Start o → Given
g o s =
    given (ground s.args.heading.rules s.args.beds.now s.args.roughness.now s.args.rates.now) s.args.rain.now s.args.inflow.now

abbrev held : (o : Over) → Start o → Rooms
held o s = rooms s.args.marks.now s.args.beds.now s.args.roughness.now s.args.rates.now s.args.depths.now s.args.rain.now s.args.inflow.now

abbrev w : (o : Over) → After-fresh_run-at o → World
w o c = world c.args.depths.now c.args.lasts.now c.args.records.now c.fresh_run-at.result

passed : (o : Over) (c : After-fresh_run-at o) → refusal (run_checks (p o (goal.at.After-fresh_run-at o c).Start) (g o (goal.at.After-fresh_run-at o c).Start) c.args.heading.end (w o c)) ≡ 0
passed o c =
    sheet_passes c.args.heading (held o (goal.at.After-fresh_run-at o c).Start) c.requires.end_value c.requires.lasts_value.0 c.requires.lasts_value.1 c.fresh_run-at.ensures

-- ---- the answers

pub nonzero_div-updates : goal.nonzero_div-updates
nonzero_div-updates o c = update_some (p o (goal.at.nonzero_div-updates o c).Start) (g o (goal.at.nonzero_div-updates o c).Start) c.args.heading.end (w o (goal.at.nonzero_div-updates o c).After-fresh_run-at) (passed o (goal.at.nonzero_div-updates o c).After-fresh_run-at)

pub loop-done-init : goal.loop-done-init
loop-done-init o c = (come_first (p o (goal.at.loop-done-init o c).Start) (g o (goal.at.loop-done-init o c).Start) c.args.heading.end (w o (goal.at.loop-done-init o c).After-fresh_run-at) (passed o (goal.at.loop-done-init o c).After-fresh_run-at), refl, refl, refl)

pub slice_end-done-requires : goal.slice_end-done-requires
slice_end-done-requires o c = c.loop-done-test.true

pub overflow_mul-clock : goal.overflow_mul-clock
overflow_mul-clock o c = omega (arith, within (p o (goal.at.overflow_mul-clock o c).Start) (g o (goal.at.overflow_mul-clock o c).Start) c.args.heading.end (w o (goal.at.overflow_mul-clock o c).After-fresh_run-at) (passed o (goal.at.overflow_mul-clock o c).After-fresh_run-at) _ c.slice_end-done.ensures.1)

pub overflow_add-steps : goal.overflow_add-steps
overflow_add-steps o c =
    omega (
      arith,
      come_few (p o (goal.at.overflow_add-steps o c).Start) (g o (goal.at.overflow_add-steps o c).Start) c.args.heading.end (w o (goal.at.overflow_add-steps o c).After-fresh_run-at) (passed o (goal.at.overflow_add-steps o c).After-fresh_run-at) c.loop-done.invariant.0 c.slice_end-done.ensures.0 c.slice_end-done.ensures.1
          c.run_to-slice.ensures.ends,
    )

pub shape_of-depths-then-refused-ne0 : goal.shape_of-depths-then-refused-ne0
shape_of-depths-then-refused-ne0 o c = c.run_to-slice.auto.depths ∙ c.loop-done.invariant.1

pub shape_of-lasts-then-refused-ne0 : goal.shape_of-lasts-then-refused-ne0
shape_of-lasts-then-refused-ne0 o c = c.run_to-slice.auto.lasts ∙ c.loop-done.invariant.2

pub shape_of-records-then-refused-ne0 : goal.shape_of-records-then-refused-ne0
shape_of-records-then-refused-ne0 o c = c.run_to-slice.auto.records ∙ c.loop-done.invariant.3

pub returns-then-refused-ne0 : goal.returns-then-refused-ne0
returns-then-refused-ne0 o c =
    runs_sheet c.args.heading (held o (goal.at.returns-then-refused-ne0 o c).Start) c.requires.lasts_value.0 c.requires.lasts_value.1 c.fresh_run-at.ensures
    (record {
      ends =
          come_refused (p o (goal.at.returns-then-refused-ne0 o c).Start) (g o (goal.at.returns-then-refused-ne0 o c).Start) c.args.heading.end (w o (goal.at.returns-then-refused-ne0 o c).After-fresh_run-at) (passed o (goal.at.returns-then-refused-ne0 o c).After-fresh_run-at) c.loop-done.invariant.0 c.slice_end-done.ensures.0 c.slice_end-done.ensures.1
          c.run_to-slice.ensures.ends c.if-refused-ne0.true;
    })

pub loop-done-smaller : goal.loop-done-smaller
loop-done-smaller o c = omega (arith, c.slice_end-done.ensures.0, c.slice_end-done.ensures.1)

pub loop-done-preserved : goal.loop-done-preserved
loop-done-preserved o c = (
  come_on (p o (goal.at.loop-done-preserved o c).Start) (g o (goal.at.loop-done-preserved o c).Start) c.args.heading.end (w o (goal.at.loop-done-preserved o c).After-fresh_run-at) (passed o (goal.at.loop-done-preserved o c).After-fresh_run-at) c.loop-done.invariant.0 c.slice_end-done.ensures.0 c.slice_end-done.ensures.1
      c.run_to-slice.ensures.ends c.if-refused-ne0.false,
  c.run_to-slice.auto.depths ∙ c.loop-done.invariant.1,
  c.run_to-slice.auto.lasts ∙ c.loop-done.invariant.2,
  c.run_to-slice.auto.records ∙ c.loop-done.invariant.3,
)

pub shape_of-depths : goal.shape_of-depths
shape_of-depths o c = c.loop-done.invariant.1

pub shape_of-lasts : goal.shape_of-lasts
shape_of-lasts o c = c.loop-done.invariant.2

pub shape_of-records : goal.shape_of-records
shape_of-records o c = c.loop-done.invariant.3

pub returns : goal.returns
returns o c =
    runs_sheet c.args.heading (held o (goal.at.returns o c).Start) c.requires.lasts_value.0 c.requires.lasts_value.1 c.fresh_run-at.ensures
    (record { ends = come_all (p o (goal.at.returns o c).Start) (g o (goal.at.returns o c).Start) c.args.heading.end (w o (goal.at.returns o c).After-fresh_run-at) (passed o (goal.at.returns o c).After-fresh_run-at) c.loop-done.invariant.0 (omega (arith, c.loop-done-test.false)) })
