-- `flood::step::step_checked` meets its contract: rows 1 to 6 refuse, where they are not known to pass, or the inner step decides.
-- Assumes nothing.
use mathlib.Core.Path.{refl}
use Rattle.ledger.specs.Runs.{Plan, World, plan, world}
use Rattle.checks.specs.Given.{Given, ground, given}
use Rattle.flood.proofs.StepLaws.{known_checks, step_checked, step-refused, step_done}
use Rattle.flood.proofs.step.step_checked.Goals as goal
use Rattle.flood.proofs.step.step_checked.Goals.{Start}

-- ---- what is known there

abbrev p : Start → Plan
p s = plan s.args.way.shape s.args.marks.now

abbrev g : Start → Given
g s = given (ground s.args.way.rules s.args.beds.now s.args.roughness.now s.args.rates.now) s.args.rain.now s.args.inflow.now

abbrev w : Start → World
w s = world s.args.depths.now s.args.lasts.now s.args.records.now s.args.run

-- ---- the answers

pub first_number-number-requires : goal.first_number-number-requires
first_number-number-requires c = λ y. known_checks (p (goal.at.first_number-number-requires c).Start) (g (goal.at.first_number-number-requires c).Start) (w (goal.at.first_number-number-requires c).Start) (c.requires.passes y)

pub returns-then-number-ne0 : goal.returns-then-number-ne0
returns-then-number-ne0 c = step_checked (p (goal.at.returns-then-number-ne0 c).Start) (g (goal.at.returns-then-number-ne0 c).Start) (w (goal.at.returns-then-number-ne0 c).Start) (c.first_number-number.ensures c.args.records.now refl) c.if-number-ne0.true

pub returns-then-refused-ne0 : goal.returns-then-refused-ne0
returns-then-refused-ne0 c = step-refused (p (goal.at.returns-then-refused-ne0 c).Start) (g (goal.at.returns-then-refused-ne0 c).Start) (w (goal.at.returns-then-refused-ne0 c).Start) c.step_on-made.ensures c.if-refused-ne0.true

pub returns : goal.returns
returns c = step_done (p (goal.at.returns c).Start) (g (goal.at.returns c).Start) (w (goal.at.returns c).Start) c.step_on-made.ensures c.if-refused-ne0.false
