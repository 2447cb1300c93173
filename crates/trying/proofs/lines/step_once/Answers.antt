-- `trying::lines::step_once` meets its contract: the table with the hatches' rows is filled, and the step over it refuses or is made.
-- Assumes nothing.
use mathlib.Core.Path.{◌≡◌, refl, sym, ◌∙◌}
use Prim.Native.Nat.{ℕ}
use native.Mathlib.Omega.{arith}
use lib.ListN.{length-replicate}
use Rattle.reckon.specs.Tests.{refusal}
use Rattle.reckon.specs.Tables.{inflow_kind, table_room}
use Rattle.ledger.specs.Runs.{Plan, plan}
use Rattle.ledger.specs.Record.{room_slots}
use Rattle.checks.specs.Given.{Given, given, ground}
use Rattle.hatches.specs.Log.{Evening, evening}
use Rattle.hatches.proofs.RefusalLaws.{slots_are}
use Rattle.trying.specs.Lines.{try_refusals}
use Rattle.trying.specs.declared.given.Account.{Account}
use Rattle.trying.proofs.LineLaws.{try_fits, try_given, step_unfit, used_fits, used_long, used_passes, used_refused, used_newest, used_steps, used_between, used_done}
use Rattle.trying.proofs.lines.step_once.Goals as goal
use Rattle.trying.proofs.lines.step_once.Goals.{After-slots_in-slots, After-try_number-number, Else-number-ne0, Start}

-- ---- the places, each by one after it

-- ---- what is known there

abbrev p : Start → Plan
p s = plan s.args.shape s.args.marks.now

abbrev g : Start → Given
g s = given (ground s.args.rules s.args.beds.now s.args.roughness.now s.args.rates.now) s.args.rain.now s.args.inflow.now

abbrev e : Start → Evening
e s = evening s.args.depths.now s.args.lasts.now s.args.records.now s.args.began.now s.args.log

abbrev a : Start → Account
a s = s.args.account

number_is : (c : After-try_number-number) → c.try_number-number.result ≡ refusal (try_refusals c.args.inflow.now c.args.log c.args.account)
number_is c = c.try_number-number.ensures c.args.inflow.now refl

passed : (c : Else-number-ne0) → refusal (try_refusals c.args.inflow.now c.args.log c.args.account) ≡ 0
passed c = sym (number_is (goal.at.Else-number-ne0 c).After-try_number-number) ∙ c.if-number-ne0.false

slots : (c : After-slots_in-slots) → c.slots_in-slots.result ≡ room_slots (p (goal.at.After-slots_in-slots c).Start) c.args.records.now
slots c = slots_are (p (goal.at.After-slots_in-slots c).Start) c.args.records.now c.record_size.ensures c.slots_in-slots.ensures

-- ---- the answers

pub returns-then-number-ne0 : goal.returns-then-number-ne0
returns-then-number-ne0 c = step_unfit (p (goal.at.returns-then-number-ne0 c).Start) (g (goal.at.returns-then-number-ne0 c).Start) (e (goal.at.returns-then-number-ne0 c).Start) (a (goal.at.returns-then-number-ne0 c).Start) c.refused.ensures (number_is (goal.at.returns-then-number-ne0 c).After-try_number-number) (λ z. c.if-number-ne0.true z)

pub fill_table-length-requires : goal.fill_table-length-requires
fill_table-length-requires c = omega (arith, try_fits c.args.inflow.now c.args.log (a (goal.at.fill_table-length-requires c).Start) (passed (goal.at.fill_table-length-requires c).Else-number-ne0), length-replicate {A = ℕ} (table_room inflow_kind) 0)

pub slice_bounds-table-end : goal.slice_bounds-table-end
slice_bounds-table-end c = used_fits (p (goal.at.slice_bounds-table-end c).Start) (g (goal.at.slice_bounds-table-end c).Start) (e (goal.at.slice_bounds-table-end c).Start) (a (goal.at.slice_bounds-table-end c).Start) (number_is (goal.at.slice_bounds-table-end c).After-try_number-number) c.if-number-ne0.false c.fill_table-length.ensures

pub slice_bounds-rows_apart-end : goal.slice_bounds-rows_apart-end
slice_bounds-rows_apart-end c = used_long (p (goal.at.slice_bounds-rows_apart-end c).Start) (g (goal.at.slice_bounds-rows_apart-end c).Start) (e (goal.at.slice_bounds-rows_apart-end c).Start) (a (goal.at.slice_bounds-rows_apart-end c).Start) (number_is (goal.at.slice_bounds-rows_apart-end c).After-try_number-number) c.if-number-ne0.false c.fill_table-length.ensures

pub record_size-requires : goal.record_size-requires
record_size-requires c = c.requires.trial_lent.0.fine

pub slice_bounds-table-end-2 : goal.slice_bounds-table-end-2
slice_bounds-table-end-2 c = used_fits (p (goal.at.slice_bounds-table-end-2 c).Start) (g (goal.at.slice_bounds-table-end-2 c).Start) (e (goal.at.slice_bounds-table-end-2 c).Start) (a (goal.at.slice_bounds-table-end-2 c).Start) (number_is (goal.at.slice_bounds-table-end-2 c).After-try_number-number) c.if-number-ne0.false c.fill_table-length.ensures

pub slice_bounds-step_checked-end : goal.slice_bounds-step_checked-end
slice_bounds-step_checked-end c = used_long (p (goal.at.slice_bounds-step_checked-end c).Start) (g (goal.at.slice_bounds-step_checked-end c).Start) (e (goal.at.slice_bounds-step_checked-end c).Start) (a (goal.at.slice_bounds-step_checked-end c).Start) (number_is (goal.at.slice_bounds-step_checked-end c).After-try_number-number) c.if-number-ne0.false c.fill_table-length.ensures

pub step_checked-answer-requires : goal.step_checked-answer-requires
step_checked-answer-requires c = record {
  rooms_lent = (c.requires.trial_lent.1, c.rows_apart.ensures);
  passes = λ y. used_passes (p (goal.at.step_checked-answer-requires c).Start) (g (goal.at.step_checked-answer-requires c).Start) (e (goal.at.step_checked-answer-requires c).Start) (a (goal.at.step_checked-answer-requires c).Start) (number_is (goal.at.step_checked-answer-requires c).After-try_number-number) c.if-number-ne0.false c.fill_table-length.ensures (c.requires.step_passes y);
}

pub slice_bounds-table-end-in-Done : goal.slice_bounds-table-end-in-Done
slice_bounds-table-end-in-Done c = used_fits (p (goal.at.slice_bounds-table-end-in-Done c).Start) (g (goal.at.slice_bounds-table-end-in-Done c).Start) (e (goal.at.slice_bounds-table-end-in-Done c).Start) (a (goal.at.slice_bounds-table-end-in-Done c).Start) (number_is (goal.at.slice_bounds-table-end-in-Done c).After-try_number-number) c.if-number-ne0.false c.fill_table-length.ensures

pub slice_bounds-made_step-end : goal.slice_bounds-made_step-end
slice_bounds-made_step-end c = used_long (p (goal.at.slice_bounds-made_step-end c).Start) (g (goal.at.slice_bounds-made_step-end c).Start) (e (goal.at.slice_bounds-made_step-end c).Start) (a (goal.at.slice_bounds-made_step-end c).Start) (number_is (goal.at.slice_bounds-made_step-end c).After-try_number-number) c.if-number-ne0.false c.fill_table-length.ensures

pub made_step-requires : goal.made_step-requires
made_step-requires c =
    let k = slots (goal.at.made_step-requires c).After-slots_in-slots in
    let h = number_is (goal.at.made_step-requires c).After-try_number-number in
    let z = c.if-number-ne0.false in
    let w = c.fill_table-length.ensures in
    let x = c.in-Done.is in record {
      newest_lt_slots = (
        omega (arith, k, used_newest (p (goal.at.made_step-requires c).Start) (g (goal.at.made_step-requires c).Start) (e (goal.at.made_step-requires c).Start) (a (goal.at.made_step-requires c).Start) h z w c.step_checked-answer.ensures x),
        omega (arith, k, c.requires.trial_lent.0.slots_few),
        omega (arith, k, c.requires.trial_lent.0.rates_suffice),
      );
      steps_bound = (
        used_steps (p (goal.at.made_step-requires c).Start) (g (goal.at.made_step-requires c).Start) (e (goal.at.made_step-requires c).Start) (a (goal.at.made_step-requires c).Start) h z w c.step_checked-answer.ensures x,
        try_given c.args.inflow.now c.args.log (a (goal.at.made_step-requires c).Start) (passed (goal.at.made_step-requires c).Else-number-ne0),
      );
      apart_value = c.rows_apart.ensures;
      between = used_between (p (goal.at.made_step-requires c).Start) (g (goal.at.made_step-requires c).Start) (e (goal.at.made_step-requires c).Start) (a (goal.at.made_step-requires c).Start) h z w c.step_checked-answer.ensures x;
    }

pub returns-in-Refused : goal.returns-in-Refused
returns-in-Refused c =
    used_refused (p (goal.at.returns-in-Refused c).Start) (g (goal.at.returns-in-Refused c).Start) (e (goal.at.returns-in-Refused c).Start) (a (goal.at.returns-in-Refused c).Start) (number_is (goal.at.returns-in-Refused c).After-try_number-number) c.if-number-ne0.false c.fill_table-length.ensures c.step_checked-answer.ensures
    c.in-Refused.is c.refused-in-Refused.ensures

pub shape_of-depths-in-Done : goal.shape_of-depths-in-Done
shape_of-depths-in-Done c = c.step_checked-answer.auto.depths

pub shape_of-lasts-in-Done : goal.shape_of-lasts-in-Done
shape_of-lasts-in-Done c = c.step_checked-answer.auto.lasts

pub shape_of-records-in-Done : goal.shape_of-records-in-Done
shape_of-records-in-Done c = c.step_checked-answer.auto.records

pub shape_of-left-in-Done : goal.shape_of-left-in-Done
shape_of-left-in-Done c = c.step_checked-answer.auto.left

pub returns-in-Done : goal.returns-in-Done
returns-in-Done c =
    used_done (p (goal.at.returns-in-Done c).Start) (g (goal.at.returns-in-Done c).Start) (e (goal.at.returns-in-Done c).Start) (a (goal.at.returns-in-Done c).Start) (number_is (goal.at.returns-in-Done c).After-try_number-number) c.if-number-ne0.false c.fill_table-length.ensures c.step_checked-answer.ensures
    c.in-Done.is (slots (goal.at.returns-in-Done c).After-slots_in-slots) c.made_step.ensures
