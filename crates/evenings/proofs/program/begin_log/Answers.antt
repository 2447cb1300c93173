-- `evenings::program::begin_log` meets its contract: the rooms are cleared, and then the reader's refusals, or the first night.
-- Assumes nothing.
use Prim.Native.Nat.{◌*◌}
use native.Mathlib.Omega.{arith}
use Rattle.sheet.specs.Sheet.{Rooms, rooms, Reads}
use Rattle.programs.specs.Program.{program_rooms, program_squares}
use Rattle.programs.proofs.EndedLaws.{refused_printed}
use Rattle.hatches.specs.Log.{most_hatches, most_kept, most_numbers}
use Rattle.evenings.proofs.NightLaws.{zeros_of, read_zero, read_as, read_fine, begin_long, begin_longer, begin_refused, begin_opened}
use Rattle.evenings.proofs.program.begin_log.Goals as goal
use Rattle.evenings.proofs.program.begin_log.Goals.{After-read}

-- the rooms after the reader
abbrev rooms-read : After-read → Rooms
rooms-read c =
    let l = c.read.new in
    rooms l.marks l.beds l.roughness l.rates l.depths l.rain l.inflow

-- what was read
reads : (c : After-read) → Reads c.args.sheet.now program_rooms c.read.result (rooms-read c)
reads c =
    read_zero c.clear_sheet.ensures c.read.ensures

pub returns-then-sheet-gt-MOST_TEXT : goal.returns-then-sheet-gt-MOST_TEXT
returns-then-sheet-gt-MOST_TEXT c =
    begin_long c.args.sheet.now c.args.log.now (zeros_of program_squares c.args.lasts.now (omega arith) c.clear.ensures) (zeros_of most_numbers c.args.records.now (omega arith) c.clear-2.ensures)
    (zeros_of (most_kept * most_hatches) c.args.began.now (omega arith) c.clear-3.ensures) c.clear_sheet.ensures c.if-sheet-gt-MOST_TEXT.true
    c.no_night.ensures (refused_printed (omega arith) (omega arith) (omega arith) c.put_refused.ensures)

pub returns-then-log-gt-MOST_TEXT : goal.returns-then-log-gt-MOST_TEXT
returns-then-log-gt-MOST_TEXT c =
    begin_longer c.args.sheet.now c.args.log.now (zeros_of program_squares c.args.lasts.now (omega arith) c.clear.ensures) (zeros_of most_numbers c.args.records.now (omega arith) c.clear-2.ensures)
    (zeros_of (most_kept * most_hatches) c.args.began.now (omega arith) c.clear-3.ensures) c.if-sheet-gt-MOST_TEXT.false c.clear_sheet.ensures
    c.if-log-gt-MOST_TEXT.true c.no_night-then-log-gt-MOST_TEXT.ensures
    (refused_printed (omega arith) (omega arith) (omega arith) c.put_refused-then-log-gt-MOST_TEXT.ensures)

pub first_night-requires : goal.first_night-requires
first_night-requires c = read_fine (read_as c.in-Read.is (reads (goal.at.first_night-requires c).After-read))

pub returns-in-Refused : goal.returns-in-Refused
returns-in-Refused c = begin_refused c.args.sheet.now c.args.log.now (zeros_of program_squares c.args.lasts.now (omega arith) c.clear.ensures) (zeros_of most_numbers c.args.records.now (omega arith) c.clear-2.ensures) (zeros_of (most_kept * most_hatches) c.args.began.now (omega arith) c.clear-3.ensures) c.if-sheet-gt-MOST_TEXT.false c.if-log-gt-MOST_TEXT.false (read_as c.in-Refused.is (reads (goal.at.returns-in-Refused c).After-read)) c.no_night-in-Refused.ensures (refused_printed (omega arith) (omega arith) (omega arith) c.put_refused-in-Refused.ensures)

pub returns-in-Read : goal.returns-in-Read
returns-in-Read c =
    begin_opened c.args.sheet.now c.args.log.now (zeros_of program_squares c.args.lasts.now (omega arith) c.clear.ensures) (zeros_of most_numbers c.args.records.now (omega arith) c.clear-2.ensures) (zeros_of (most_kept * most_hatches) c.args.began.now (omega arith) c.clear-3.ensures)
    c.if-sheet-gt-MOST_TEXT.false c.if-log-gt-MOST_TEXT.false (read_as c.in-Read.is (reads (goal.at.returns-in-Read c).After-read))
    c.first_night.ensures
