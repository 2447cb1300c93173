-- `evenings::telling::take_line` meets its contract: what the line says is done, and then printed.
-- Assumes nothing.
use mathlib.Core.Path.{◌∙◌}
use native.Mathlib.Omega.{arith}
use Rattle.programs.proofs.EndedLaws.{refused_printed}
use Rattle.ledger.specs.Runs.{Plan, plan}
use Rattle.checks.specs.Given.{Given, ground, given}
use Rattle.hatches.specs.Log.{Evening, evening}
use Rattle.evenings.proofs.ShownLaws.{shown_lent, shown_whole, shown_unread}
use borrow.Author.Rules.{rules}
use Rattle.evenings.proofs.telling.take_line.Goals as goal
use Rattle.evenings.proofs.telling.take_line.Goals.{Start}

-- what the arguments are
abbrev P : Start → Plan
P s = plan s.args.shape s.args.marks.now

abbrev G : Start → Given
G s = given (ground s.args.rules s.args.beds.now s.args.roughness.now s.args.rates.now) s.args.rain.now s.args.inflow.now

abbrev E : Start → Evening
E s = evening s.args.depths.now s.args.lasts.now s.args.records.now s.args.began.now s.args.log

pub put_entry-length-requires : goal.put_entry-length-requires
put_entry-length-requires c = (
  λ z.
      let l = shown_lent (P (goal.at.put_entry-length-requires c).Start) (G (goal.at.put_entry-length-requires c).Start) (E (goal.at.put_entry-length-requires c).Start) _ c.take_entry-came.ensures.number_is z in
      (l.shape, l.few, l.marks_long, c.take_entry-came.auto.depths ∙ l.depths_long),
  search rules,
)

pub returns-in_default : goal.returns-in_default
returns-in_default c =
    shown_unread (P (goal.at.returns-in_default c).Start) (G (goal.at.returns-in_default c).Start) c.args.text.now c.args.at c.args.line (E (goal.at.returns-in_default c).Start) c.log_line-read.ensures c.in_default.is
    (refused_printed (search rules) (omega arith) (omega arith) c.put_refused.ensures)

pub returns : goal.returns
returns c =
    shown_whole (P (goal.at.returns c).Start) (G (goal.at.returns c).Start) c.args.text.now c.args.at c.args.line (E (goal.at.returns c).Start) c.log_line-read.ensures c.in-Some.is
    c.take_entry-came.ensures (c.put_entry-length.ensures _ _ _)
