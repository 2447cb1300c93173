-- `desks::command::make_step` meets its contract: no step is to be made, the desk is not ready, or the step is held.
-- Assumes nothing.
use mathlib.Core.Path.{◌≡◌, refl, sym, ◌∙◌}
use mathlib.Core.Bool.{true}
use borrow.Author.Rules.{rules}
use Rattle.checks.proofs.CheckLaws.{fails_by, holds_by}
use Rattle.sheet.specs.Sheet.{rooms}
use Rattle.evenings.specs.Program.{Stores, stores}
use Rattle.desks.specs.Command.{ready_number}
use Rattle.desks.specs.Inner.Further.{StepPassesOn}
use Rattle.desks.proofs.LeftLaws.{step_none, step-refused, step-told}
use Rattle.desks.proofs.command.make_step.Goals as goal
use Rattle.desks.proofs.command.make_step.Goals.{After-step_held-arg-15-1, Start}

-- ---- the places, each by one after it

-- ---- what is known there

abbrev r : Start → Stores
r s =
    stores
    (rooms s.args.marks.now s.args.beds.now s.args.roughness.now s.args.rates.now s.args.depths.now s.args.rain.now
    s.args.inflow.now)
    s.args.lasts.now s.args.records.now s.args.began.now

ready : (c : After-step_held-arg-15-1) → ready_number c.args.desk ≡ 0
ready c = sym c.refused_at_once-number.ensures ∙ c.if-number-ne0.false

passes :
    (c : After-step_held-arg-15-1) → c.args.checked ≡ true → StepPassesOn c.args.desk (r (goal.at.After-step_held-arg-15-1 c).Start)
passes c y = (c.requires y).passes (holds_by refl c.if-not-series.false)

-- ---- the answers

pub returns-then-not-series : goal.returns-then-not-series
returns-then-not-series c = step_none c.args.desk (r (goal.at.returns-then-not-series c).Start) (fails_by refl c.if-not-series.true) c.desk_still.ensures

pub returns-then-number-ne0 : goal.returns-then-number-ne0
returns-then-number-ne0 c = step-refused c.args.desk (r (goal.at.returns-then-number-ne0 c).Start) (holds_by refl c.if-not-series.false) c.refused_at_once-number.ensures c.if-number-ne0.true c.refuse_line.ensures

pub step_held-requires : goal.step_held-requires
step_held-requires c = record {
  work_long = search rules;
  desk_value = (ready c, search rules, search rules, λ y. passes c y);
}

pub returns : goal.returns
returns c = step-told c.args.desk (r (goal.at.returns c).Start) (holds_by refl c.if-not-series.false) c.refused_at_once-number.ensures c.if-number-ne0.false c.step_held.ensures
