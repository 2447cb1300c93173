-- Peaks raised by one state more, and the steps of a run with its peaks once the checks have passed.
-- Assumes nothing.
use Rattle.std.specs.Prelude.{◌≡◌, Bool, true, false, List, ℕ, ◌+◌, ◌-◌, ◌<◌, ltb, length, get_or, set}
use Rattle.reckon.specs.Tests.{pick}
use Rattle.reckon.specs.Lists.{filled}
use Rattle.grid.specs.Marks.{closed}
use Rattle.ledger.specs.Runs.{Plan, World, world}
use Rattle.checks.specs.Given.{Given}
use Rattle.flood.specs.Run.{ended, run_from}
use Rattle.flood.specs.declared.run.Ran.{Ran}
use Rattle.peaks.specs.Peaks.{peaks_over, clocks_over}

-- the depth of a square lies above its peak
abbrev pub above_at : List ℕ → List ℕ → ℕ → Bool
above_at depths peaks i = ltb (get_or peaks i 0) (get_or depths i 0)

-- a square that is not closed rises to its depth: at the first state every one does, later only to a deeper one
unfoldable pub rises_at : Bool → List ℕ → List ℕ → List ℕ → ℕ → Bool
rises_at first marks depths peaks i = pick (closed marks i) false (pick first true (above_at depths peaks i))

-- none of eight squares side by side rises, whatever their marks
abbrev pub EightStay : Bool → List ℕ → List ℕ → ℕ → Type 0
EightStay first depths peaks at = (marks : List ℕ) (k : ℕ) → k < 8 → rises_at first marks depths peaks (at + k) ≡ false

module _ (first : Bool) (clock : ℕ) (marks depths peaks clocks : List ℕ) where
  abbrev pub peak_for : ℕ → ℕ
  peak_for i = pick (rises_at first marks depths peaks i) (get_or depths i 0) (get_or peaks i 0)

  abbrev pub clock_for : ℕ → ℕ
  clock_for i = pick (rises_at first marks depths peaks i) clock (get_or clocks i 0)

  -- one square
  pub record RaisesOne (i : ℕ) (peaks' clocks' : List ℕ) : Type 0 where
    pub peaks_are : peaks' ≡ pick (rises_at first marks depths peaks i) (set peaks i (get_or depths i 0)) peaks
    pub clocks_are : clocks' ≡ pick (rises_at first marks depths peaks i) (set clocks i clock) clocks

  -- those below a square
  pub record RaisedTo (i : ℕ) (peaks' clocks' : List ℕ) : Type 0 where
    pub peaks_are : peaks' ≡ filled i (closed marks) peak_for peaks
    pub clocks_are : clocks' ≡ filled i (closed marks) clock_for clocks

  -- all of them
  unfoldable pub peaks_raised : List ℕ
  peaks_raised = filled (length marks) (closed marks) peak_for peaks

  unfoldable pub clocks_raised : List ℕ
  clocks_raised = filled (length marks) (closed marks) clock_for clocks

  pub record Raises (peaks' clocks' : List ℕ) : Type 0 where
    pub peaks_are : peaks' ≡ peaks_raised
    pub clocks_are : clocks' ≡ clocks_raised

-- the squares of a stretch: rooms that were raised below its start are raised below its stop, whatever they held at first
abbrev pub RaisesBetween : Bool → ℕ → List ℕ → List ℕ → List ℕ → List ℕ → ℕ → ℕ → List ℕ → List ℕ → Type 0
RaisesBetween first clock marks depths peaks clocks start stop peaks' clocks' =
    (peaks₀ clocks₀ : List ℕ) → RaisedTo first clock marks depths peaks₀ clocks₀ start peaks clocks → RaisedTo first clock marks depths peaks₀ clocks₀ stop peaks' clocks'

-- the steps of a run from the world, and the peaks of all its states
pub record PeaksOn (p : Plan) (g : Given) (end : ℕ) (w : World) (peaks clocks : List ℕ) (a : Ran) (depths lasts records peaks' clocks' : List ℕ) : Type 0 where
  pub ends : ended a.refused a.steps (world depths lasts records a.run) ≡ run_from p g end (end - w.run.clock) 0 w
  pub peaks_are : peaks' ≡ peaks_over p g w a.steps peaks
  pub clocks_are : clocks' ≡ clocks_over p g w a.steps clocks
