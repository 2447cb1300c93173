-- `lists::tally::take_sheet` meets its contract: full, refused, or accepted.
-- Assumes nothing.
use mathlib.Core.Path.{◌∙◌}
use native.Mathlib.Omega.{arith}
use lib.ListN.{length-replicate}
use Prim.Native.Nat.{ℕ}
use Rattle.programs.specs.Program.{program_squares}
use Rattle.lists.specs.Sheets.{File, file_of}
use Rattle.lists.specs.Tally.{Rooms, rooms}
use Rattle.lists.proofs.TakenLaws.{taken_none, taken_refused, taken-accepted}
use Rattle.lists.proofs.tally.take_sheet.Goals as goal
use Rattle.lists.proofs.tally.take_sheet.Goals.{Start}

-- what came of the name, and what is lent
abbrev file : Start → File
file s = file_of s.args.opened s.args.text.now

abbrev lent : Start → Rooms
lent s = rooms s.args.marks.now s.args.counts.now s.args.deepest.now s.args.places.now s.args.numbers.now

pub returns-then-taken-ge-MOST_SHEETS : goal.returns-then-taken-ge-MOST_SHEETS
returns-then-taken-ge-MOST_SHEETS c = taken_none c.args.tally (file (goal.at.returns-then-taken-ge-MOST_SHEETS c).Start) (lent (goal.at.returns-then-taken-ge-MOST_SHEETS c).Start) c.if-taken-ge-MOST_SHEETS.true c.full.ensures

pub returns-then-number-ne0 : goal.returns-then-number-ne0
returns-then-number-ne0 c = taken_refused c.args.tally (file (goal.at.returns-then-number-ne0 c).Start) (lent (goal.at.returns-then-number-ne0 c).Start) c.if-taken-ge-MOST_SHEETS.false c.judge-judged.ensures.number_is c.copy_into.ensures c.if-number-ne0.true c.noted.ensures

pub take_accepted-requires : goal.take_accepted-requires
take_accepted-requires c =
    let given = c.judge-judged.ensures in
    let none = c.if-number-ne0.false in
    let long = length-replicate {A = ℕ} program_squares 0 in
    let lent-long = c.well_formed in record {
      taken_lt_most_sheets = (c.if-taken-ge-MOST_SHEETS.false, given.in_range none, given.few none);
      sheet_marks_len = (c.judge-judged.auto.marks ∙ long, c.judge-judged.auto.peaks ∙ long, omega (arith, lent-long));
      counts_len = (omega (arith, lent-long), omega (arith, lent-long), omega (arith, lent-long));
    }

pub returns : goal.returns
returns c =
    taken-accepted c.args.tally (file (goal.at.returns c).Start) (lent (goal.at.returns c).Start) c.if-taken-ge-MOST_SHEETS.false c.judge-judged.ensures c.if-number-ne0.false c.copy_into.ensures
    c.take_accepted.ensures
