-- Document 01, "The sheet and its program": the fresh run of a sheet, what is printed of it, and what `meadow` prints of a text.
-- Assumes nothing.
use Rattle.std.specs.Prelude.{◌≡◌, List, [], ℕ, ◌+◌, ◌*◌, ◌≤◌, eqb, leb, length, take}
use Rattle.reckon.specs.Tests.{pick}
use Rattle.grid.specs.Squares.{squares}
use Rattle.ledger.specs.Runs.{Plan, world}
use Rattle.flood.specs.Run.{Ended, ended, run_to}
use Rattle.flood.specs.declared.run.Ran.{Ran}
use Rattle.text.specs.Writing.{Wrote}
use Rattle.sheet.specs.Sheet.{Rooms, plan_in, given_in, start_in, said, sheet_of}
use Rattle.sheet.specs.declared.reading.Heading.{Heading}
use Rattle.sheet.specs.declared.reading.Sheet.{Sheet}
use Rattle.sheet.specs.declared.reading.Sheet.TheVariants.{Read, Refused}
use Rattle.answer.specs.Printed.{refused_text, made_text}
use Rattle.programs.specs.Reading.{empty_rooms, sheet_within}

-- "reads at most 65,536 bytes .. and gives 1 above 1,024 squares"
abbrev pub most_text : ℕ
most_text = 65_536

abbrev pub program_squares : ℕ
program_squares = 1_024

-- the bytes that always suffice for what is printed of so many squares; and of the program's most
abbrev pub bytes_for : ℕ → ℕ
bytes_for n = 38 * n + 128

abbrev pub most_printed : ℕ
most_printed = 40_960

-- how a run ended: a refused one prints its refusal alone
unfoldable pub ended_text : Plan → Ended → List ℕ
ended_text p end = pick (eqb end.number 0) (made_text p end.world.depths end.world.run end.steps) (refused_text end.number 0)

-- it goes by what the run's answer tells and by the depths
abbrev pub ran_text : Plan → List ℕ → Ran → List ℕ
ran_text p depths a = ended_text p (ended a.refused a.steps (world depths [] [] a.run))

-- the fresh run of a sheet to its end, by what rooms hold; "Its record room holds one record"
abbrev pub sheet_run : Heading → Rooms → Ended
sheet_run h held = run_to (plan_in h.shape h.rules held) (given_in h.shape h.rules held) h.end (start_in h.shape h.rules held)

unfoldable pub run_text : Heading → Rooms → List ℕ
run_text h held = ended_text (plan_in h.shape h.rules held) (sheet_run h held)

-- what a program prints of a text as the reader answers: the refusal alone, or what it prints of the sheet that the text says
abbrev pub sheet_printed : (Heading → Rooms → List ℕ) → List ℕ → Sheet → List ℕ
sheet_printed printed s (Read h) = printed h (said s)
sheet_printed printed s (Refused number line) = refused_text number line

unfoldable pub sheet_text : List ℕ → Sheet → List ℕ
sheet_text s a = sheet_printed run_text s a

-- the program's own rooms
abbrev pub program_rooms : Rooms
program_rooms = empty_rooms program_squares

-- of a text, with `meadow`'s limits
abbrev pub text_printed : (Heading → Rooms → List ℕ) → List ℕ → List ℕ
text_printed printed s = sheet_printed printed s (sheet_within most_text s program_rooms)

-- "more: 12, line 0"
unfoldable pub meadow_text : List ℕ → List ℕ
meadow_text s = pick (leb (length s) most_text) (sheet_text s (sheet_of s program_rooms)) (refused_text 12 0)

-- ---- what the public functions give

-- the run of a sheet, by what the lent parts of its rooms hold
pub record RunsSheet (h : Heading) (held : Rooms) (a : Ran) (depths lasts records : List ℕ) : Type 0 where
  pub ends : ended a.refused a.steps (world depths lasts records a.run) ≡ sheet_run h held

pub record PutRan (p : Plan) (depths : List ℕ) (a : Ran) (at : ℕ) (old new : List ℕ) (r : ℕ) : Type 0 where
  pub wrote : Wrote (ran_text p depths a) at old new r
  pub fits : length (ran_text p depths a) ≤ bytes_for (squares p.shape)

-- the text at the start of a room, where it fits; the rest of the room stays; the last two follow, and are what `&out[..r]` asks
pub record Prints (t old new : List ℕ) (r : ℕ) : Type 0 where
  pub wrote : Wrote t 0 old new r
  pub fits : length t ≤ most_printed
  pub within : r ≤ length new
  pub counted : r ≡ length (take r new)
