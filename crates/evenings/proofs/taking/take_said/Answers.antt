-- `evenings::taking::take_said` meets its contract: the checks, and then what the kind of line does.
-- Assumes nothing.
use mathlib.Core.Path.{◌≡◌, sym, ap, ◌∙◌}
use Rattle.reckon.specs.Tests.{refusal}
use Rattle.ledger.specs.Runs.{Plan, plan}
use Rattle.checks.specs.Given.{Given, ground, given}
use Rattle.hatches.specs.Log.{Evening, evening, entry_refusals, line_fine}
use Rattle.hatches.proofs.RefusalLaws.{entered_is, entered_back, hatch_number}
use Rattle.evenings.proofs.TakeLaws.{take-refused, took_hatch, took_rate, took_back}
use Rattle.evenings.proofs.taking.take_said.Goals as goal
use Rattle.evenings.proofs.taking.take_said.Goals.{Else-refused-ne0, Start}

-- what the arguments are
abbrev P : Start → Plan
P s = plan s.args.shape s.args.marks.now

abbrev G : Start → Given
G s = given (ground s.args.rules s.args.beds.now s.args.roughness.now s.args.rates.now) s.args.rain.now s.args.inflow.now

abbrev E : Start → Evening
E s = evening s.args.depths.now s.args.lasts.now s.args.records.now s.args.began.now s.args.log

-- no row refuses the line before its steps
passed : (c : Else-refused-ne0) → refusal (entry_refusals (P (goal.at.Else-refused-ne0 c).Start) (G (goal.at.Else-refused-ne0 c).Start) (E (goal.at.Else-refused-ne0 c).Start) c.args.said) ≡ 0
passed c = sym (c.entry_number-refused.ensures _ _ _ _ _) ∙ c.if-refused-ne0.false

pub returns-then-refused-ne0 : goal.returns-then-refused-ne0
returns-then-refused-ne0 c = take-refused (P (goal.at.returns-then-refused-ne0 c).Start) (G (goal.at.returns-then-refused-ne0 c).Start) (E (goal.at.returns-then-refused-ne0 c).Start) _ (c.entry_number-refused.ensures _ _ _ _ _) c.if-refused-ne0.true

pub name_hatch-requires : goal.name_hatch-requires
name_hatch-requires c =
    hatch_number c.args.rules c.args.log _ _ _
    (ap (line_fine c.args.rules c.args.log) (sym c.in-Hatch.is) ∙ (entered_is (P (goal.at.name_hatch-requires c).Start) (G (goal.at.name_hatch-requires c).Start) (E (goal.at.name_hatch-requires c).Start) _ (passed (goal.at.name_hatch-requires c).Else-refused-ne0)).line)

pub back_line-requires : goal.back_line-requires
back_line-requires c = let h = entered_back (P (goal.at.back_line-requires c).Start) (G (goal.at.back_line-requires c).Start) (E (goal.at.back_line-requires c).Start) (passed (goal.at.back_line-requires c).Else-refused-ne0) c.in-Back.is in record { shape_in_range = h.0; log_value = h.1 }

pub returns-in-Hatch : goal.returns-in-Hatch
returns-in-Hatch c = took_hatch (P (goal.at.returns-in-Hatch c).Start) (G (goal.at.returns-in-Hatch c).Start) (E (goal.at.returns-in-Hatch c).Start) (passed (goal.at.returns-in-Hatch c).Else-refused-ne0) c.in-Hatch.is c.name_hatch.ensures

pub returns-in-Rate : goal.returns-in-Rate
returns-in-Rate c = took_rate (P (goal.at.returns-in-Rate c).Start) (G (goal.at.returns-in-Rate c).Start) (E (goal.at.returns-in-Rate c).Start) (passed (goal.at.returns-in-Rate c).Else-refused-ne0) c.in-Rate.is c.run_line.ensures

pub returns-in-Back : goal.returns-in-Back
returns-in-Back c = took_back (P (goal.at.returns-in-Back c).Start) (G (goal.at.returns-in-Back c).Start) (E (goal.at.returns-in-Back c).Start) (passed (goal.at.returns-in-Back c).Else-refused-ne0) c.in-Back.is (c.back_line.ensures (G (goal.at.returns-in-Back c).Start))
