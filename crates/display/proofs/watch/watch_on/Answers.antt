-- `display::watch::watch_on` meets its contract: the boards see the first state, and then the one after each step.
-- Assumes nothing.
use mathlib.Core.Bool.{true}
use Rattle.ledger.specs.Runs.{Plan, World, plan, world}
use Rattle.checks.specs.Given.{Given, ground, given}
use Rattle.flood.proofs.StepLaws.{is_ready}
use Rattle.display.proofs.WatchLaws.{still_on, watching_starts, watching_all, watching_whole}
use Rattle.display.proofs.watch.watch_on.Goals as goal
use Rattle.display.proofs.watch.watch_on.Goals.{Start}

abbrev p : Start → Plan
p s = plan s.args.way.shape s.args.marks.now

abbrev g : Start → Given
g s =
    given (ground s.args.way.rules s.args.beds.now s.args.roughness.now s.args.rates.now) s.args.rain.now s.args.inflow.now

abbrev w : Start → World
w s = world s.args.depths.now s.args.lasts.now s.args.records.now s.args.run

pub refresh-shown-requires : goal.refresh-shown-requires
refresh-shown-requires c =
    let s = (goal.at.refresh-shown-requires c).Start in
    (c.requires.boards_on.0, (is_ready (p s) (g s) (w s) c.requires.passes.checked).flows.lies.sited.depths_long)

pub run_kept-ran-requires : goal.run_kept-ran-requires
run_kept-ran-requires c = record {
  passes = c.requires.passes;
  apart_value = (c.requires.boards_on.1, c.requires.boards_on.2);
  kept_fits = still_on c.args.way.shape c.args.depths.now true c.args.run.clock c.args.boards c.requires.boards_on.0 c.refresh-shown.ensures;
}

pub returns : goal.returns
returns c =
    let s = (goal.at.returns c).Start in
    let ran = c.run_kept-ran.ensures in
    record {
      ends = ran.ends;
      boards_are =
          watching_whole (p s) (g s) (w s) c.args.boards c.refresh-shown.ensures
          (watching_all (p s) (g s) (w s) c.run_kept-ran.result.steps (watching_starts (p s) (g s) (w s) c.args.boards c.refresh-shown.ensures) ran.kept);
    }
