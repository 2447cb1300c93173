-- The run of a sheet with its peaks, by what the rooms hold that it was read into.
-- Assumes nothing.
use Rattle.std.specs.Prelude.{◌≡◌, List, ◌++◌, ℕ, eqb, length, take, drop}
use Rattle.reckon.specs.Tests.{pick}
use Rattle.grid.specs.Squares.{squares}
use Rattle.sheet.specs.Sheet.{Rooms, plan_in, given_in, start_in}
use Rattle.sheet.specs.declared.reading.Heading.{Heading}
use Rattle.flood.specs.declared.run.Ran.{Ran}
use Rattle.ledger.specs.Runs.{Plan}
use Rattle.answer.specs.Printed.{refused_text}
use Rattle.programs.specs.Program.{Prints, sheet_run}
use Rattle.peaks.specs.Highest.{high_world_text}
use Rattle.peaks.specs.Peaks.{peaks_over, clocks_over}

-- number, steps and run value of the run; the peaks lie at the start of their rooms
pub record SheetPeaks (h : Heading) (held : Rooms) (peaks clocks : List ℕ) (a : Ran) (peaks' clocks' : List ℕ) : Type 0 where
  pub number_is : a.refused ≡ (sheet_run h held).number
  pub steps_are : a.steps ≡ (sheet_run h held).steps
  pub run_is : a.run ≡ (sheet_run h held).world.run
  pub peaks_are :
      take (squares h.shape) peaks'
      ≡ peaks_over (plan_in h.shape h.rules held) (given_in h.shape h.rules held) (start_in h.shape h.rules held) a.steps
      (take (squares h.shape) peaks)
  pub clocks_are :
      take (squares h.shape) clocks'
      ≡ clocks_over (plan_in h.shape h.rules held) (given_in h.shape h.rules held) (start_in h.shape h.rules held) a.steps
      (take (squares h.shape) clocks)
  pub peaks_long : length peaks' ≡ length peaks
  pub clocks_long : length clocks' ≡ length clocks

-- and the depths that it leaves lie at the start of theirs; the rest of each room stays
pub record RunsSheetPeaks (h : Heading) (held : Rooms) (depths peaks clocks : List ℕ) (a : Ran) (depths' peaks' clocks' : List ℕ) : Type 0 where
  pub told : SheetPeaks h held peaks clocks a peaks' clocks'
  pub depths_are : depths' ≡ (sheet_run h held).world.depths ++ drop (squares h.shape) depths
  pub peaks_rest : drop (squares h.shape) peaks' ≡ drop (squares h.shape) peaks
  pub clocks_rest : drop (squares h.shape) clocks' ≡ drop (squares h.shape) clocks

-- what is printed of a run by what its answer tells and by the peaks
abbrev pub high_ran_text : Plan → List ℕ → List ℕ → Ran → List ℕ
high_ran_text p peaks clocks a =
    pick (eqb a.refused 0) (high_world_text p peaks clocks a.run a.steps) (refused_text a.refused 0)

abbrev pub PutHighest : Plan → List ℕ → List ℕ → Ran → List ℕ → List ℕ → ℕ → Type 0
PutHighest p peaks clocks a old new r = Prints (high_ran_text p peaks clocks a) old new r
