-- `survey::returning::put_judged` meets its contract: a check that fails, or the sheet.
-- Assumes nothing.
use mathlib.Core.Path.{sym, ◌∙◌}
use Rattle.sheet.specs.Sheet.{Rooms, rooms}
use Rattle.survey.proofs.MovingLaws.{judged-refused, judged_put}
use Rattle.survey.proofs.returning.put_judged.Goals as goal
use Rattle.survey.proofs.returning.put_judged.Goals.{Start}

abbrev held : Start → Rooms
held s =
    rooms s.args.marks.now s.args.beds.now s.args.roughness.now s.args.rates.now s.args.depths.now s.args.rain.now
    s.args.inflow.now

pub returns-then-number-ne0 : goal.returns-then-number-ne0
returns-then-number-ne0 c = judged-refused c.args.heading (held (goal.at.returns-then-number-ne0 c).Start) c.judge-number.ensures c.args.out.now c.if-number-ne0.true

pub put_sheet-requires : goal.put_sheet-requires
put_sheet-requires c = record {
  writable = c.requires.judged (sym c.judge-number.ensures ∙ c.if-number-ne0.false);
  most_file_in_bounds = c.requires.shape_in_range.1;
}

pub returns : goal.returns
returns c = judged_put c.args.heading (held (goal.at.returns c).Start) c.judge-number.ensures c.if-number-ne0.false c.put_sheet.ensures
