-- Times with one step more, and the run of a sheet with them.
-- Assumes nothing.
use Rattle.std.specs.Prelude.{◌≡◌, List, ℕ, ◌+◌, ◌<◌, ◌≤◌, leb, length, get_or}
use Rattle.reckon.specs.Tests.{pick}
use Rattle.reckon.specs.Lists.{tabulate}
use Rattle.grid.specs.Marks.{closed}
use Rattle.grid.specs.Squares.{squares}
use Rattle.ledger.specs.Runs.{Plan}
use Rattle.flood.specs.declared.run.Ran.{Ran}
use Rattle.sheet.specs.Sheet.{Rooms}
use Rattle.sheet.specs.declared.reading.Heading.{Heading}
use Rattle.programs.specs.Program.{RunsSheet}
use Rattle.hours.specs.Hours.{wet_depth, times_in}

-- what a square counts of a step that lasted so long, by the depths at its end
unfoldable pub wet_for : ℕ → List ℕ → List ℕ → ℕ → ℕ
wet_for lasted marks depths i = pick (closed marks i) 0 (pick (leb wet_depth (get_or depths i 0)) lasted 0)

unfoldable pub times_after : ℕ → List ℕ → List ℕ → List ℕ → List ℕ
times_after lasted marks depths times = tabulate (length marks) (λ i. get_or times i 0 + wet_for lasted marks depths i)

-- one time a square, none longer than the clock
pub record TimesFit (p : Plan) (clock : ℕ) (times : List ℕ) : Type 0 where
  pub long : length times ≡ squares p.shape
  pub few : (i : ℕ) → i < squares p.shape → get_or times i 0 ≤ clock

-- the run of a sheet, and its times
pub record RunsSheetWet (h : Heading) (held : Rooms) (a : Ran) (depths lasts records times : List ℕ) : Type 0 where
  pub run : RunsSheet h held a depths lasts records
  pub times_are : times ≡ times_in h held
