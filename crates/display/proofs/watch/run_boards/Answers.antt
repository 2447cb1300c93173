-- `display::watch::run_boards` meets its contract: rows 1 to 6, then 13, then the steps decide.
-- Assumes nothing.
use mathlib.Core.Path.{ap}
use mathlib.Core.Bool.{not}
use mathlib.Core.Path.{◌≡◌, refl, sym, ◌∙◌}
use mathlib.Core.Bool.{true}
use Rattle.reckon.specs.Tests.{refusal}
use Rattle.ledger.specs.Runs.{Plan, World, plan, world}
use Rattle.checks.specs.Given.{Given, ground, given}
use Rattle.checks.specs.Refusals.{run_checks}
use Rattle.checks.specs.Inner.Ready.{TablesInRange}
use Rattle.checks.proofs.CheckLaws.{fails_by, holds_by, run_checks_step, run_checks_end, end_is}
use Rattle.flood.proofs.StepLaws.{is_ready}
use Rattle.display.specs.Boards.{boards_fine, listed}
use Rattle.display.proofs.WatchLaws.{fine_on, rows_refused, boards_refused, boards_run}
use Rattle.display.proofs.watch.run_boards.Goals as goal
use Rattle.display.proofs.watch.run_boards.Goals.{Else-not-boards_fine, Else-number-ne0, Start}

-- ---- the places, each by the one before it

-- ---- what is known there

abbrev p : Start → Plan
p s = plan s.args.shape s.args.marks.now

abbrev g : Start → Given
g s = given (ground s.args.rules s.args.beds.now s.args.roughness.now s.args.rates.now) s.args.rain.now s.args.inflow.now

abbrev w : Start → World
w s = world s.args.depths.now s.args.lasts.now s.args.records.now s.args.run

passed : (c : Else-number-ne0) → refusal (run_checks (p (goal.at.Else-number-ne0 c).Start) (g (goal.at.Else-number-ne0 c).Start) c.args.end (w (goal.at.Else-number-ne0 c).Start)) ≡ 0
passed c = sym (c.check-number.ensures c.args.records.now refl) ∙ c.if-number-ne0.false

tables : (c : Else-number-ne0) → TablesInRange (p (goal.at.Else-number-ne0 c).Start) (g (goal.at.Else-number-ne0 c).Start)
tables c = (is_ready (p (goal.at.Else-number-ne0 c).Start) (g (goal.at.Else-number-ne0 c).Start) (w (goal.at.Else-number-ne0 c).Start) (run_checks_step (p (goal.at.Else-number-ne0 c).Start) (g (goal.at.Else-number-ne0 c).Start) c.args.end (w (goal.at.Else-number-ne0 c).Start) (passed c))).waters

all-fine : (c : Else-not-boards_fine) → boards_fine (p (goal.at.Else-not-boards_fine c).Start) c.args.boards.count (listed c.args.boards) ≡ true
all-fine c = holds_by c.boards_fine.ensures (ap not c.if-not-boards_fine.false)

-- ---- the answers

pub returns-then-number-ne0 : goal.returns-then-number-ne0
returns-then-number-ne0 c =
    rows_refused (p (goal.at.returns-then-number-ne0 c).Start) (g (goal.at.returns-then-number-ne0 c).Start) c.args.end (w (goal.at.returns-then-number-ne0 c).Start) c.args.boards (c.check-number.ensures c.args.records.now refl) c.if-number-ne0.true
    c.shown_with.ensures

pub boards_fine-requires : goal.boards_fine-requires
boards_fine-requires c = record { fine = (tables c).fine; whole = (tables c).marks_long }

pub returns-then-not-boards_fine : goal.returns-then-not-boards_fine
returns-then-not-boards_fine c =
    boards_refused (p (goal.at.returns-then-not-boards_fine c).Start) (g (goal.at.returns-then-not-boards_fine c).Start) c.args.end (w (goal.at.returns-then-not-boards_fine c).Start) c.args.boards (c.check-number.ensures c.args.records.now refl) c.if-number-ne0.false
    (fails_by c.boards_fine.ensures (ap not c.if-not-boards_fine.true)) c.shown_with-then-not-boards_fine.ensures

pub watch_on-requires : goal.watch_on-requires
watch_on-requires c =
    let e = passed (goal.at.watch_on-requires c).Else-number-ne0 in record {
      passes = record { checked = run_checks_step (p (goal.at.watch_on-requires c).Start) (g (goal.at.watch_on-requires c).Start) c.args.end (w (goal.at.watch_on-requires c).Start) e };
      boards_on = (
        fine_on (p (goal.at.watch_on-requires c).Start) c.args.boards (tables (goal.at.watch_on-requires c).Else-number-ne0).fine (all-fine (goal.at.watch_on-requires c).Else-not-boards_fine),
        c.rows_apart.ensures,
        (end_is c.args.rules c.args.end (run_checks_end (p (goal.at.watch_on-requires c).Start) (g (goal.at.watch_on-requires c).Start) c.args.end (w (goal.at.watch_on-requires c).Start) e)).0,
      );
    }

pub returns : goal.returns
returns c =
    boards_run (p (goal.at.returns c).Start) (g (goal.at.returns c).Start) c.args.end (w (goal.at.returns c).Start) c.args.boards (c.check-number.ensures c.args.records.now refl) c.if-number-ne0.false
    (all-fine (goal.at.returns c).Else-not-boards_fine) c.watch_on.ensures
