-- `desks::lines::next_step` meets its contract: no step is left, or the next is tried, which refuses or is made.
-- Assumes nothing.
use mathlib.Core.Path.{ap}
use mathlib.Core.Bool.{not}
use Rattle.ledger.specs.Runs.{Plan, plan}
use Rattle.hatches.specs.Log.{Evening, evening}
use Rattle.checks.specs.Given.{Given, given, ground}
use Rattle.checks.proofs.CheckLaws.{fails_by, holds_by}
use Rattle.desks.proofs.AnswerLaws.{shows_on, trial_lent, some_left, next_none, next_refused, next_made}
use Rattle.desks.proofs.lines.next_step.Goals as goal
use Rattle.desks.proofs.lines.next_step.Goals.{Start}

-- ---- the places, each by one after it

-- ---- what is known there

abbrev p : Start → Plan
p s = plan s.args.desk.heading.shape s.args.marks.now

abbrev g : Start → Given
g s =
    given (ground s.args.desk.heading.rules s.args.beds.now s.args.roughness.now s.args.rates.now) s.args.rain.now
    s.args.inflow.now

abbrev e : Start → Evening
e s = evening s.args.depths.now s.args.lasts.now s.args.records.now s.args.began.now s.args.desk.log

-- ---- the answers

pub returns-then-not-steps_left : goal.returns-then-not-steps_left
returns-then-not-steps_left c =
    next_none (p (goal.at.returns-then-not-steps_left c).Start) (g (goal.at.returns-then-not-steps_left c).Start) (e (goal.at.returns-then-not-steps_left c).Start) c.args.desk.account c.args.desk.series
    (fails_by c.steps_left.ensures (ap not c.if-not-steps_left.true))
    (c.last_line.ensures c.args.lasts.now c.args.records.now c.args.began.now)

pub step_once-tried-requires : goal.step_once-tried-requires
step_once-tried-requires c = record {
  trial_lent = (trial_lent c.requires.lends.0, c.requires.rooms_lent);
  step_passes = c.requires.lends.1;
}

pub last_line-requires-then-tried-ne0 : goal.last_line-requires-then-tried-ne0
last_line-requires-then-tried-ne0 c = shows_on c.requires.lends.0.shows c.step_once-tried.auto.depths

pub shape_of-depths-then-tried-ne0 : goal.shape_of-depths-then-tried-ne0
shape_of-depths-then-tried-ne0 c = c.step_once-tried.auto.depths

pub shape_of-lasts-then-tried-ne0 : goal.shape_of-lasts-then-tried-ne0
shape_of-lasts-then-tried-ne0 c = c.step_once-tried.auto.lasts

pub shape_of-records-then-tried-ne0 : goal.shape_of-records-then-tried-ne0
shape_of-records-then-tried-ne0 c = c.step_once-tried.auto.records

pub shape_of-began-then-tried-ne0 : goal.shape_of-began-then-tried-ne0
shape_of-began-then-tried-ne0 c = c.step_once-tried.auto.began

pub shape_of-left-then-tried-ne0 : goal.shape_of-left-then-tried-ne0
shape_of-left-then-tried-ne0 c = c.step_once-tried.auto.left

pub returns-then-tried-ne0 : goal.returns-then-tried-ne0
returns-then-tried-ne0 c =
    let last = c.step_once-tried.new in
    next_refused (p (goal.at.returns-then-tried-ne0 c).Start) (g (goal.at.returns-then-tried-ne0 c).Start) (e (goal.at.returns-then-tried-ne0 c).Start) c.args.desk.account c.args.desk.series
    (holds_by c.steps_left.ensures (ap not c.if-not-steps_left.false)) c.step_once-tried.ensures (λ z. c.if-tried-ne0.true z)
    (c.last_line-then-tried-ne0.ensures last.lasts last.records last.began)

pub made_line-requires : goal.made_line-requires
made_line-requires c = record {
  shows = shows_on c.requires.lends.0.shows c.step_once-tried.auto.depths;
  le_left = some_left c.args.desk.series c.args.desk.log.run.clock (holds_by c.steps_left.ensures (ap not c.if-not-steps_left.false));
}

pub shape_of-depths : goal.shape_of-depths
shape_of-depths c = c.step_once-tried.auto.depths

pub shape_of-lasts : goal.shape_of-lasts
shape_of-lasts c = c.step_once-tried.auto.lasts

pub shape_of-records : goal.shape_of-records
shape_of-records c = c.step_once-tried.auto.records

pub shape_of-began : goal.shape_of-began
shape_of-began c = c.step_once-tried.auto.began

pub shape_of-left : goal.shape_of-left
shape_of-left c = c.step_once-tried.auto.left

pub returns : goal.returns
returns c =
    let last = c.step_once-tried.new in
    next_made (p (goal.at.returns c).Start) (g (goal.at.returns c).Start) (e (goal.at.returns c).Start) c.args.desk.account c.args.desk.series
    (holds_by c.steps_left.ensures (ap not c.if-not-steps_left.false)) c.step_once-tried.ensures c.if-tried-ne0.false
    (c.made_line.ensures last.lasts last.records last.began)
