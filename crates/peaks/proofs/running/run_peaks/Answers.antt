-- `peaks::running::run_peaks` meets its contract: the rooms, then rows 1 to 6, then the steps decide.
-- Assumes nothing.
use mathlib.Core.Path.{ap}
use mathlib.Core.Bool.{not}
use mathlib.Core.Path.{◌≡◌, refl, sym, ◌∙◌}
use mathlib.Core.Bool.{true}
use mathlib.Core.List.{[], ◌∷◌}
use borrow.Author.Tests.{eqb-true}
use lib.Dec.{eqb}
use lib.ListN.{length}
use Rattle.reckon.specs.Tests.{every, refusal}
use Rattle.reckon.proofs.TestLaws.{every_each}
use Rattle.grid.specs.Squares.{squares, shape_fine}
use Rattle.ledger.specs.Runs.{Plan, World, plan, world}
use Rattle.checks.specs.Given.{Given, ground, given}
use Rattle.checks.specs.Refusals.{run_checks}
use Rattle.checks.proofs.CheckLaws.{fails_by, holds_by, run_checks_step, run_checks_end, end_is}
use Rattle.peaks.proofs.RunPeakLaws.{rooms-refused, rows_refused, peaks-run}
use Rattle.peaks.proofs.running.run_peaks.Goals as goal
use Rattle.peaks.proofs.running.run_peaks.Goals.{Else-not-peak_rooms_fine, Else-number-ne0, Start}

-- ---- the places, each by the one before it

-- ---- what is known there

abbrev p : Start → Plan
p s = plan s.args.shape s.args.marks.now

abbrev g : Start → Given
g s = given (ground s.args.rules s.args.beds.now s.args.roughness.now s.args.rates.now) s.args.rain.now s.args.inflow.now

abbrev w : Start → World
w s = world s.args.depths.now s.args.lasts.now s.args.records.now s.args.run

-- the rooms are fine, and so is the shape
rooms_fine :
    (c : Else-not-peak_rooms_fine) →
    every (shape_fine c.args.shape ∷ eqb (length c.args.peaks.now) (squares c.args.shape) ∷ eqb (length c.args.clocks.now) (squares c.args.shape) ∷ []) ≡ true
rooms_fine c = holds_by c.peak_rooms_fine.ensures (ap not c.if-not-peak_rooms_fine.false)

passed : (c : Else-number-ne0) → refusal (run_checks (p (goal.at.Else-number-ne0 c).Start) (g (goal.at.Else-number-ne0 c).Start) c.args.end (w (goal.at.Else-number-ne0 c).Start)) ≡ 0
passed c = sym (c.check-number.ensures c.args.records.now refl) ∙ c.if-number-ne0.false

-- ---- the answers

pub returns-then-not-peak_rooms_fine : goal.returns-then-not-peak_rooms_fine
returns-then-not-peak_rooms_fine c = rooms-refused (p (goal.at.returns-then-not-peak_rooms_fine c).Start) (g (goal.at.returns-then-not-peak_rooms_fine c).Start) c.args.end (w (goal.at.returns-then-not-peak_rooms_fine c).Start) c.args.peaks.now c.args.clocks.now (fails_by c.peak_rooms_fine.ensures (ap not c.if-not-peak_rooms_fine.true))

pub returns-then-number-ne0 : goal.returns-then-number-ne0
returns-then-number-ne0 c =
    rows_refused (p (goal.at.returns-then-number-ne0 c).Start) (g (goal.at.returns-then-number-ne0 c).Start) c.args.end (w (goal.at.returns-then-number-ne0 c).Start) c.args.peaks.now c.args.clocks.now (rooms_fine (goal.at.returns-then-number-ne0 c).Else-not-peak_rooms_fine)
    (c.check-number.ensures c.args.records.now refl) c.if-number-ne0.true

pub peak_on-requires : goal.peak_on-requires
peak_on-requires c =
    let each = every_each _ (rooms_fine (goal.at.peak_on-requires c).Else-not-peak_rooms_fine) in
    let e = passed (goal.at.peak_on-requires c).Else-number-ne0 in record {
      passes = record { checked = run_checks_step (p (goal.at.peak_on-requires c).Start) (g (goal.at.peak_on-requires c).Start) c.args.end (w (goal.at.peak_on-requires c).Start) e };
      apart_value = (c.rows_apart.ensures, (end_is c.args.rules c.args.end (run_checks_end (p (goal.at.peak_on-requires c).Start) (g (goal.at.peak_on-requires c).Start) c.args.end (w (goal.at.peak_on-requires c).Start) e)).0);
      peaks_len = (eqb-true _ _ each.1.0, eqb-true _ _ each.1.1.0);
    }

pub returns : goal.returns
returns c =
    peaks-run (p (goal.at.returns c).Start) (g (goal.at.returns c).Start) c.args.end (w (goal.at.returns c).Start) c.args.peaks.now c.args.clocks.now (rooms_fine (goal.at.returns c).Else-not-peak_rooms_fine)
    (c.check-number.ensures c.args.records.now refl) c.if-number-ne0.false c.peak_on.ensures
