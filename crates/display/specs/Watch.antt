-- Document 02, #101: a run to an end with boards.
-- Assumes nothing.
use Rattle.std.specs.Prelude.{◌≡◌, List, [], ◌∷◌, ◌++◌, map, ℕ, eqb, drop}
use Rattle.reckon.specs.Tests.{Row, pick, ◌unless◌, refusal}
use Rattle.ledger.specs.Runs.{Plan, World, world}
use Rattle.checks.specs.Given.{Given}
use Rattle.checks.specs.Refusals.{run_checks}
use Rattle.flood.specs.Run.{Ended, ended, go_on, run_to}
use Rattle.flood.specs.declared.run.Ran.{Ran}
use Rattle.display.specs.Boards.{boards_fine, listed, shown}
use Rattle.display.specs.declared.boards.Board.{Board}
use Rattle.display.specs.declared.boards.Boards.{Boards}
use Rattle.display.specs.declared.boards.Shown.{Shown}

module _ (p : Plan) (g : Given) (end : ℕ) (w : World) (n : ℕ) (boards : List Board) where
  -- "is 13, after 6 and before any step"; n is how many boards there are
  abbrev pub watch_rows : List Row
  watch_rows = run_checks p g end w ++ (13 unless boards_fine p n boards ∷ [])

  unfoldable pub watch_number : ℕ
  watch_number = refusal watch_rows

  -- refused by that, or else the plain run
  unfoldable pub watched_to : Ended
  watched_to = go_on watch_number 0 w (run_to p g end w)

  -- "refreshed after each step of a run to an end"; "When a step is refused they hold what the states before it gave": the states after the
  -- steps made
  unfoldable pub boards_after : List Board
  boards_after = pick (eqb watch_number 0) (map (λ (b : Board). shown p g w b (run_to p g end w).steps) boards) boards

-- ---- what the public functions give

-- number, steps and run value as the answer tells them, the world afterwards, and the boards
pub record Watches
    (p : Plan) (g : Given) (end : ℕ) (w : World) (n : ℕ) (before : List Board)
    (a : Ran) (depths lasts records : List ℕ) (after : List Board) : Type 0 where
  pub ends : ended a.refused a.steps (world depths lasts records a.run) ≡ watched_to p g end w n before
  pub boards_are : after ≡ boards_after p g end w n before

-- the same of boards by value; what of the list is not counted stays
pub record WatchesHeld
    (p : Plan) (g : Given) (end : ℕ) (w : World) (before : Boards) (a : Shown) (depths lasts records : List ℕ) : Type 0 where
  pub watches : Watches p g end w before.count (listed before) a.ran depths lasts records (listed a.boards)
  pub count_is : a.boards.count ≡ before.count
  pub rest_stays : drop before.count a.boards.list ≡ drop before.count before.list
