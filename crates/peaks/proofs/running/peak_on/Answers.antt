-- `peaks::running::peak_on` meets its contract: the rooms hold the peaks of the first state, and then each step's are kept.
-- Assumes nothing.
use mathlib.Core.Path.{sym, ◌∙◌}
use Rattle.std.proofs.Common.{rules}
use Rattle.ledger.specs.Runs.{Plan, World, plan, world}
use Rattle.checks.specs.Given.{Given, ground, given}
use Rattle.flood.proofs.KeptLaws.{kept_same}
use Rattle.peaks.specs.declared.running.Peaks.{Peaks}
use Rattle.peaks.proofs.PeakLaws.{Peaked, peaked_long, peaked_starts, peaked_again, peaked_whole, peaks_kept, clock_small, marks_even, depths_even}
use Rattle.peaks.proofs.running.peak_on.Goals as goal
use Rattle.peaks.proofs.running.peak_on.Goals.{After-raise, Start}

abbrev p : Start → Plan
p s = plan s.args.way.shape s.args.marks.now

abbrev g : Start → Given
g s =
    given (ground s.args.way.rules s.args.beds.now s.args.roughness.now s.args.rates.now) s.args.rain.now s.args.inflow.now

abbrev w : Start → World
w s = world s.args.depths.now s.args.lasts.now s.args.records.now s.args.run

-- the starting state
starting :
    (c : After-raise) →
    let s = (goal.at.After-raise c).Start in
    Peaked (p s) (g s) (w s) c.args.peaks.now c.args.clocks.now (w s) 0 c.raise.new.peaks c.raise.new.clocks
starting c =
    let s = (goal.at.After-raise c).Start in
    peaked_starts (p s) (g s) (w s) c.args.peaks.now c.args.clocks.now (marks_even (p s) (g s) (w s) s.requires.passes.checked) c.raise.ensures

pub overflow_cast-run : goal.overflow_cast-run
overflow_cast-run c =
    let s = (goal.at.overflow_cast-run c).Start in
    record { fits = clock_small (p s) (g s) (w s) c.requires.passes.checked }

pub raise-requires : goal.raise-requires
raise-requires c =
    let s = (goal.at.raise-requires c).Start in
    let m = marks_even (p s) (g s) (w s) s.requires.passes.checked in
    (depths_even (p s) (g s) (w s) s.requires.passes.checked ∙ sym m, c.requires.peaks_len.0 ∙ sym m, c.requires.peaks_len.1 ∙ sym m)

pub run_kept-requires-clause-kept_fits : goal.run_kept-requires-clause-kept_fits
run_kept-requires-clause-kept_fits c =
    let s = (goal.at.run_kept-requires-clause-kept_fits c).Start in
    let m = marks_even (p s) (g s) (w s) s.requires.passes.checked in
    let long = peaked_long _ _ _ _ _ (starting (goal.at.run_kept-requires-clause-kept_fits c).After-raise) in
    (long.0 ∙ (c.requires.peaks_len.0 ∙ sym m), long.1 ∙ (c.requires.peaks_len.1 ∙ sym m))

pub returns : goal.returns
returns c =
    let s = (goal.at.returns c).Start in
    let first = starting (goal.at.returns c).After-raise in
    let long = peaked_long _ _ _ _ _ first in
    let kept = c.run_kept.ensures.kept in
    let steps = c.run_kept.result.steps in
    let peaks = kept_same _ (p s) (g s) (w s) (λ (t : Peaks). t.peaks.ghost_name) (λ depths before clock t t' e. e.0) steps kept in
    let clocks = kept_same _ (p s) (g s) (w s) (λ (t : Peaks). t.clocks.ghost_name) (λ depths before clock t t' e. e.1) steps kept in
    let all =
    peaked_whole (p s) (g s) (w s) first
    (peaks_kept (p s) (g s) (w s) (marks_even (p s) (g s) (w s) s.requires.passes.checked) _ (λ (t : Peaks). t.peaks.now) (λ (t : Peaks). t.clocks.now)
    (λ depths before clock t t' e. e.2) steps (long.0 ∙ (c.requires.peaks_len.0 ∙ sym (long.1 ∙ c.requires.peaks_len.1))) (peaked_again (p s) (g s) (w s) first) kept) in
    let at-peaks = all.peaks_are in
    let at-clocks = all.clocks_are in
    record { ends = c.run_kept.ensures.ends; peaks_are = search rules; clocks_are = search rules }
