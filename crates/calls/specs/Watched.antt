-- What the caller of a run with boards has, in document 02's words (#101).
-- Assumes nothing.
use Rattle.std.specs.Prelude.{◌≡◌, true, List, ℕ, ◌<◌, length, get_or, take, drop}
use Rattle.reckon.specs.Tests.{pick}
use Rattle.ledger.specs.Runs.{Plan, World}
use Rattle.checks.specs.Given.{Given}
use Rattle.flood.specs.declared.run.Ran.{Ran}
use Rattle.display.specs.Boards.{no_board, listed, shown}
use Rattle.display.specs.Watch.{watch_rows, watch_number}
use Rattle.display.specs.Worked.{BoardSays}
use Rattle.display.specs.declared.boards.Board.{Board}
use Rattle.display.specs.declared.boards.Boards.{Boards}
use Rattle.display.specs.declared.boards.Shown.{Shown}
use Rattle.levels.specs.Program.{boards_text}
use Rattle.exports.specs.Numbers.{run_value_from}
use Rattle.exports.specs.Steps.{ran_sized}
use Rattle.display_exports.specs.Boards.{before_steps}
use Rattle.demands.specs.Table.{FirstFails}
use Rattle.calls.specs.Library.{AfterRun}

-- "Highest and first time are those over that run's starting state and every state after a step": b before a run of n steps, s after it
pub record BoardIs (p : Plan) (g : Given) (w : World) (b : Board) (n : ℕ) (s : Board) : Type 0 where
  pub shows : s ≡ shown p g w b n
  pub says : BoardSays p g w b n

-- v is the world that it left; n is how many boards there are
pub record AfterBoards (p : Plan) (g : Given) (end : ℕ) (w : World) (n : ℕ) (before : List Board) (a : Ran) (v : World) (after : List Board) : Type 0 where
  -- "is 13, after 6 and before any step": the first row that applies refuses it, and all is as it was
  pub exactly_when :
      (k : ℕ) → FirstFails (watch_rows p g end w n before) k → (a.refused ≡ k) × ((a.steps ≡ 0) × ((v ≡ w) × (after ≡ before)))
  -- else it is the plain run
  pub same_run : watch_number p g end w n before ≡ 0 → AfterRun p g end w a v
  -- and each board shows the states that it came to: "When a step is refused they hold what the states before it gave"
  pub boards : watch_number p g end w n before ≡ 0 → (i : ℕ) → i < length before → BoardIs p g w (get_or before i no_board) a.steps (get_or after i no_board)
  pub as_many : length after ≡ length before

-- the same of boards by value
pub record AfterHeld (p : Plan) (g : Given) (end : ℕ) (w : World) (before : Boards) (a : Shown) (v : World) : Type 0 where
  pub watched : AfterBoards p g end w before.count (listed before) a.ran v (listed a.boards)
  pub count_is : a.boards.count ≡ before.count
  pub rest_stays : drop before.count a.boards.list ≡ drop before.count before.list

-- the exported call: v is the world that it left, with the run that its slice tells
pub record AfterFloodBoards
    (p : Plan) (g : Given) (end : ℕ) (w : World) (rules old old_steps : List ℕ) (before : List Board) (number : ℕ) (v : World) (run steps : List ℕ) (after : List Board) : Type 0 where
  -- where a slice has not its size
  pub not_its_size : (ran_sized p g end w rules old old_steps ≡ true → ⊥) → (number ≡ 1) × ((v ≡ w) × ((run ≡ old) × ((steps ≡ old_steps) × (after ≡ before))))
  -- else what the library's own run with boards answers
  pub watched : ran_sized p g end w rules old old_steps ≡ true →
      AfterBoards p g end w (length before) before (record { refused = number; steps = pick (before_steps number) 0 (get_or steps 0 0); run = run_value_from run }) v after
  -- refused before its first step, by 1 to 6 or 13, it tells none
  pub none_told : before_steps number ≡ true → steps ≡ old_steps

-- what is printed of a sheet and its boards
pub record AfterBoardsText (s boards old new : List ℕ) (long : ℕ) : Type 0 where
  pub printed : take long new ≡ boards_text s boards
  pub rest_stays : drop long new ≡ drop long old
