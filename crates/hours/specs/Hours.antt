-- For how long each square was wet in a run, and what is printed of it.
-- Assumes nothing.
use Rattle.std.specs.Prelude.{List, ℕ, suc, ◌-◌, eqb, leb, get_or}
use Rattle.reckon.specs.Tests.{pick}
use Rattle.reckon.specs.Lists.{sum_below, tabulate}
use Rattle.grid.specs.Squares.{squares}
use Rattle.ledger.specs.Runs.{Plan, World}
use Rattle.ledger.specs.Flows.{shut}
use Rattle.checks.specs.Given.{Given}
use Rattle.flood.specs.Run.{steps_on}
use Rattle.sheet.specs.Sheet.{Rooms, plan_in, given_in, start_in}
use Rattle.sheet.specs.declared.reading.Heading.{Heading}
use Rattle.sheet.specs.declared.reading.Sheet.{Sheet}
use Rattle.answer.specs.Printed.{refused_text, made_text}
use Rattle.programs.specs.Reading.{sheet_within}
use Rattle.programs.specs.Program.{most_text, program_rooms, sheet_run, sheet_printed}

-- a square is wet from 1 cm on, in µm
abbrev pub wet_depth : ℕ
wet_depth = 10_000

module _ (p : Plan) (g : Given) (w : World) where
  -- how long the step after k steps lasts
  unfoldable pub step_time : ℕ → ℕ
  step_time k = (steps_on p g (suc k) w).run.clock - (steps_on p g k w).run.clock

  -- a square counts as wet for a step at whose end it is
  unfoldable pub wet_in : ℕ → ℕ → ℕ
  wet_in i k = pick (leb wet_depth (get_or (steps_on p g (suc k) w).depths i 0)) (step_time k) 0

  -- over the first n steps
  unfoldable pub wet_time : ℕ → ℕ → ℕ
  wet_time n i = sum_below n (wet_in i)

  -- of every square; a closed one never is
  unfoldable pub wet_times : ℕ → List ℕ
  wet_times n = tabulate (squares p.shape) (λ i. pick (shut p i) 0 (wet_time n i))

-- the fresh run of a sheet to its end, by what rooms hold: printed as `meadow` prints it, with times for depths; a refused one prints its refusal alone
module _ (h : Heading) (held : Rooms) where
  abbrev pub times_in : List ℕ
  times_in =
      wet_times (plan_in h.shape h.rules held) (given_in h.shape h.rules held) (start_in h.shape h.rules held) (sheet_run h held).steps

  unfoldable pub hours_run_text : List ℕ
  hours_run_text =
      pick (eqb (sheet_run h held).number 0)
      (made_text (plan_in h.shape h.rules held) times_in (sheet_run h held).world.run (sheet_run h held).steps)
      (refused_text (sheet_run h held).number 0)

unfoldable pub hours_sheet_text : List ℕ → Sheet → List ℕ
hours_sheet_text s a = sheet_printed hours_run_text s a

-- of a text, with `meadow`'s limits
unfoldable pub hours_text : List ℕ → List ℕ
hours_text s = hours_sheet_text s (sheet_within most_text s program_rooms)
