-- Document 02, #114, "Which squares drown most often": how deep each square was at its deepest, over all states of a run, and when first.
-- Assumes nothing.
use Rattle.std.specs.Prelude.{◌≡◌, List, ◌∷◌, ℕ, eqb, length, get_or}
use Rattle.reckon.specs.Tests.{Row, pick, ◌unless◌, refusal}
use Rattle.reckon.specs.Lists.{filled}
use Rattle.grid.specs.Squares.{squares, shape_fine}
use Rattle.ledger.specs.Runs.{Plan, World, world}
use Rattle.ledger.specs.Flows.{shut}
use Rattle.checks.specs.Given.{Given}
use Rattle.checks.specs.Refusals.{run_checks}
use Rattle.flood.specs.Run.{Ended, ended, go_on, run_to, steps_on}
use Rattle.flood.specs.declared.run.Ran.{Ran}
use Rattle.reckon.specs.Most.{most_over, first_most}

module _ (p : Plan) (g : Given) (w : World) where
  -- the depth of square i after k steps; the starting state is the one after none
  abbrev pub depth_after : ℕ → ℕ → ℕ
  depth_after i k = get_or (steps_on p g k w).depths i 0

  -- "the deepest value" of square i "at any state of the run", n steps long
  unfoldable pub peak_of : ℕ → ℕ → ℕ
  peak_of n i = most_over n (depth_after i)

  -- the clock of the first state that had it
  unfoldable pub peak_clock : ℕ → ℕ → ℕ
  peak_clock n i = (steps_on p g (first_most n (depth_after i)) w).run.clock

  -- of every square not closed, into rooms; the other numbers of them stay
  unfoldable pub peaks_over : ℕ → List ℕ → List ℕ
  peaks_over n old = filled (squares p.shape) (shut p) (peak_of n) old

  unfoldable pub clocks_over : ℕ → List ℕ → List ℕ
  clocks_over n old = filled (squares p.shape) (shut p) (peak_clock n) old

-- ---- a run to an end with its peaks: rows 1 to 6 as for any, and two rooms of one number a square among row 1's

module _ (p : Plan) (g : Given) (end : ℕ) (w : World) (peaks clocks : List ℕ) where
  abbrev pub peak_rows : List Row
  peak_rows =
      1 unless shape_fine p.shape
      ∷ 1 unless eqb (length peaks) (squares p.shape)
      ∷ 1 unless eqb (length clocks) (squares p.shape)
      ∷ run_checks p g end w

  unfoldable pub peak_checks : ℕ
  peak_checks = refusal peak_rows

  -- the run itself is `run_to`'s
  unfoldable pub peak_run : Ended
  peak_run = go_on peak_checks 0 w (run_to p g end w)

  -- a run that is refused before its first step looks at no state; a later refusal leaves what the states before it gave
  unfoldable pub peaks_after : List ℕ
  peaks_after = pick (eqb peak_checks 0) (peaks_over p g w peak_run.steps peaks) peaks

  unfoldable pub clocks_after : List ℕ
  clocks_after = pick (eqb peak_checks 0) (clocks_over p g w peak_run.steps clocks) clocks

-- ---- what the public function gives

-- number, steps and run value as the answer tells them, the world afterwards, and the two rooms
pub record RunsPeaking
    (p : Plan) (g : Given) (end : ℕ) (w : World) (peaks clocks : List ℕ) (a : Ran) (depths lasts records peaks' clocks' : List ℕ) : Type 0 where
  pub ends : ended a.refused a.steps (world depths lasts records a.run) ≡ peak_run p g end w peaks clocks
  pub peaks_are : peaks' ≡ peaks_after p g end w peaks clocks
  pub clocks_are : clocks' ≡ clocks_after p g end w peaks clocks
