-- `flood::run::run_to` meets its contract: rows 1 to 6 refuse, or the steps decide.
-- Assumes nothing.
use mathlib.Core.Path.{◌≡◌, refl, sym, ◌∙◌}
use Rattle.reckon.specs.Tests.{refusal}
use Rattle.ledger.specs.Runs.{Plan, World, plan, world}
use Rattle.checks.specs.Given.{Given, ground, given}
use Rattle.checks.specs.Refusals.{run_checks}
use Rattle.checks.proofs.CheckLaws.{run_checks_step, run_checks_end, end_is}
use Rattle.flood.proofs.RunToLaws.{run_checked, run_passed}
use Rattle.flood.proofs.run.run_to.Goals as goal
use Rattle.flood.proofs.run.run_to.Goals.{Else-number-ne0, Start}

-- ---- what is known there

abbrev p : Start → Plan
p s = plan s.args.shape s.args.marks.now

abbrev g : Start → Given
g s = given (ground s.args.rules s.args.beds.now s.args.roughness.now s.args.rates.now) s.args.rain.now s.args.inflow.now

abbrev w : Start → World
w s = world s.args.depths.now s.args.lasts.now s.args.records.now s.args.run

passed : (c : Else-number-ne0) → refusal (run_checks (p (goal.at.Else-number-ne0 c).Start) (g (goal.at.Else-number-ne0 c).Start) c.args.end (w (goal.at.Else-number-ne0 c).Start)) ≡ 0
passed c = sym (c.check-number.ensures c.args.records.now refl) ∙ c.if-number-ne0.false

-- ---- the answers

pub returns-then-number-ne0 : goal.returns-then-number-ne0
returns-then-number-ne0 c = record { ends = run_checked (p (goal.at.returns-then-number-ne0 c).Start) (g (goal.at.returns-then-number-ne0 c).Start) c.args.end (w (goal.at.returns-then-number-ne0 c).Start) (c.check-number.ensures c.args.records.now refl) c.if-number-ne0.true }

pub run_kept-requires : goal.run_kept-requires
run_kept-requires c =
    let e = passed (goal.at.run_kept-requires c).Else-number-ne0 in record {
      passes = record { checked = run_checks_step (p (goal.at.run_kept-requires c).Start) (g (goal.at.run_kept-requires c).Start) c.args.end (w (goal.at.run_kept-requires c).Start) e };
      apart_value = (c.rows_apart.ensures, (end_is c.args.rules c.args.end (run_checks_end (p (goal.at.run_kept-requires c).Start) (g (goal.at.run_kept-requires c).Start) c.args.end (w (goal.at.run_kept-requires c).Start) e)).0);
      kept_fits = tt;
    }

pub returns : goal.returns
returns c = record {
  ends =
      run_passed (p (goal.at.returns c).Start) (g (goal.at.returns c).Start) c.args.end (w (goal.at.returns c).Start) (c.check-number.ensures c.args.records.now refl) c.if-number-ne0.false
      c.run_kept.ensures.ends;
}
