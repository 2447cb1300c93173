-- `lists::judging::judge_text` meets its contract: the reader's refusal, or what the run gives.
-- Assumes nothing.
use Rattle.sheet.specs.Sheet.{Rooms, rooms}
use Rattle.sheet.specs.declared.reading.Sheet.TheVariants.{Read}
use Rattle.programs.specs.Program.{most_text, program_squares, program_rooms}
use Rattle.programs.specs.Reading.{ReadsWithin}
use Rattle.programs.proofs.HeldLaws.{read_as, read_holds}
use Rattle.lists.proofs.JudgedLaws.{reads_program, judged-refused, judged_read}
use Rattle.lists.proofs.judging.judge_text.Goals as goal
use Rattle.lists.proofs.judging.judge_text.Goals.{After-read_within-sheet, In-Read}

-- the rooms after the reader, and that it has read them
abbrev rooms-read : After-read_within-sheet → Rooms
rooms-read c =
    let l = c.read_within-sheet.new in
    rooms l.marks l.beds l.roughness l.rates l.depths l.rain l.inflow

reads :
    (c : In-Read) →
    ReadsWithin most_text c.args.text.now program_rooms (Read c.in-Read.heading) (rooms-read (goal.at.In-Read c).After-read_within-sheet)
reads c = read_as c.in-Read.is (reads_program c.requires.1 c.read_within-sheet.ensures)

pub run_judged-requires : goal.run_judged-requires
run_judged-requires c =
    let pre = c.requires in record {
      holds = read_holds most_text program_squares _ (reads (goal.at.run_judged-requires c).In-Read);
      firsts_len = (pre.0, pre.2);
    }

pub returns-in-Refused : goal.returns-in-Refused
returns-in-Refused c = judged-refused c.args.text.now (read_as c.in-Refused.is (reads_program c.requires.1 c.read_within-sheet.ensures)) c.refused.ensures

pub shape_of-marks-in-Read : goal.shape_of-marks-in-Read
shape_of-marks-in-Read c = c.read_within-sheet.auto.marks

pub returns-in-Read : goal.returns-in-Read
returns-in-Read c = judged_read c.args.text.now (reads (goal.at.returns-in-Read c).In-Read) c.run_judged.ensures
