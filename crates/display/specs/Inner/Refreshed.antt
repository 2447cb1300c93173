-- A board after one state more, every counted board after it, and the steps of a run with boards once the checks have passed.
-- Assumes nothing.
use Rattle.std.specs.Prelude.{◌≡◌, Bool, false, ◌||◌, List, ◌++◌, map, ℕ, ◌-◌, ◌≤◌, ◌<◌, max, leb, get_or, take, drop}
use Rattle.reckon.specs.Tests.{pick}
use Rattle.grid.specs.Squares.{OnGrid, square_at}
use Rattle.grid.specs.declared.squares.Shape.{Shape}
use Rattle.ledger.specs.Runs.{Plan, World, world}
use Rattle.ledger.specs.declared.runs.Run.{Run}
use Rattle.checks.specs.Given.{Given}
use Rattle.flood.specs.Run.{ended, run_from}
use Rattle.display.specs.Boards.{most_boards, no_board, shown}
use Rattle.display.specs.declared.boards.Board.{Board}
use Rattle.display.specs.declared.boards.Boards.{Boards}
use Rattle.display.specs.declared.boards.Shown.{Shown}

-- a board that has seen nothing yet
abbrev pub cleared : Board → Board
cleared b = record { row = b.row; column = b.column; mark = b.mark; highest = 0; reached = false; first = 0 }

-- a board after one more state, in which its square is so deep at a clock
abbrev pub seen_at : ℕ → ℕ → Board → Board
seen_at depth clock b =
    record {
      row = b.row;
      column = b.column;
      mark = b.mark;
      highest = max b.highest depth;
      reached = b.reached || leb b.mark depth;
      first = pick b.reached b.first (pick (leb b.mark depth) clock b.first);
    }

-- a board after a state of the grid, the first of a run or a later one
unfoldable pub looked_at : Shape → List ℕ → Bool → ℕ → Board → Board
looked_at s depths starting clock b = seen_at (get_or depths (square_at s b.row b.column) 0) clock (pick starting (cleared b) b)

-- ---- every counted board

-- the first n of a list by a rule, and the rest as it is
unfoldable pub first_mapped : (Board → Board) → ℕ → List Board → List Board
first_mapped f n l = map f (take n l) ++ drop n l

abbrev pub counted : (Board → Board) → Boards → Boards
counted f bs = record { count = bs.count; list = first_mapped f bs.count bs.list }

abbrev pub refreshed : Shape → List ℕ → Bool → ℕ → Boards → Boards
refreshed s depths starting clock bs = counted (looked_at s depths starting clock) bs

-- after a step, by the depths and the clock at its end
abbrev pub seen_after : Plan → List ℕ → ℕ → ℕ → Boards → Boards → Type 0
seen_after p depths before clock bs bs' = bs' ≡ refreshed p.shape depths false clock bs

-- at most sixteen, and each of them on the grid
pub record BoardsOn (s : Shape) (bs : Boards) : Type 0 where
  pub few : bs.count ≤ most_boards
  pub each : (k : ℕ) → k < bs.count → OnGrid s (get_or bs.list k no_board).row (get_or bs.list k no_board).column

-- ---- a run

-- what it came to, and the boards after it
abbrev pub shown_with : ℕ → ℕ → Run → Boards → Shown
shown_with n steps u bs = record { ran = record { refused = n; steps = steps; run = u }; boards = bs }

-- the steps of a run from the world, and every counted board over its states
pub record WatchesOn (p : Plan) (g : Given) (end : ℕ) (w : World) (before : Boards) (a : Shown) (depths lasts records : List ℕ) : Type 0 where
  pub ends : ended a.ran.refused a.ran.steps (world depths lasts records a.ran.run) ≡ run_from p g end (end - w.run.clock) 0 w
  pub boards_are : a.boards ≡ counted (λ (b : Board). shown p g w b a.ran.steps) before
