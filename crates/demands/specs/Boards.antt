-- Document 02, #101, and the letter's demands of a run with boards.
-- Assumes nothing.
use Rattle.std.specs.Prelude.{◌≡◌, List, ℕ, length}
use Rattle.ledger.specs.Runs.{Plan, World}
use Rattle.checks.specs.Given.{Given}
use Rattle.flood.specs.Run.{ended, run_to}
use Rattle.display.specs.Watch.{watch_rows, watch_number, watched_to, boards_after}
use Rattle.display.specs.declared.boards.Board.{Board}
use Rattle.demands.specs.Table.{TableSays}
use Rattle.demands.specs.Closed.{SameGiven, SameWorld}

-- the demands of a run with boards
pub record BoardsRight (p : Plan) : Type 0 where
  -- "is 13, after 6 and before any step"
  pub exactly_when : (g : Given) (end : ℕ) (w : World) (n : ℕ) (boards : List Board) → TableSays (watch_rows p g end w n boards) (watch_number p g end w n boards)
  -- "and the run and everything lent stay as they were"
  pub refusals_leave : (g : Given) (end : ℕ) (w : World) (n : ℕ) (boards : List Board) → (watch_number p g end w n boards ≡ 0 → ⊥) →
      (watched_to p g end w n boards ≡ ended (watch_number p g end w n boards) 0 w) × (boards_after p g end w n boards ≡ boards)
  -- else it is the plain run
  pub same_run : (g : Given) (end : ℕ) (w : World) (n : ℕ) (boards : List Board) → watch_number p g end w n boards ≡ 0 →
      watched_to p g end w n boards ≡ run_to p g end w
  -- "no answer depends on" what a closed square holds: neither the number nor what a board shows
  pub none_depends : (g h : Given) (end : ℕ) (w v : World) (boards : List Board) → SameGiven p g h → SameWorld p w v →
      (watch_number p g end w (length boards) boards ≡ watch_number p h end v (length boards) boards)
      × (boards_after p g end w (length boards) boards ≡ boards_after p h end v (length boards) boards)
