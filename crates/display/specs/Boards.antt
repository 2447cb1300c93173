-- Document 02, #101, "Level boards on the wheel-house display": a board over the states of a run, and refusal 13.
-- Assumes nothing.
use Rattle.std.specs.Prelude.{Bool, not, false, List, [], ◌∷◌, ℕ, suc, ◌+◌, leb, ltb, get_or, replicate, set, take}
use Rattle.reckon.specs.Tests.{pick, every, all_below, first_failing}
use Rattle.reckon.specs.Most.{most_over}
use Rattle.reckon.specs.Ranges.{most_depth}
use Rattle.grid.specs.Squares.{square_at}
use Rattle.ledger.specs.Runs.{Plan, World}
use Rattle.ledger.specs.Flows.{shut}
use Rattle.checks.specs.Given.{Given}
use Rattle.flood.specs.Run.{steps_on}
use Rattle.display.specs.declared.boards.Board.{Board}
use Rattle.display.specs.declared.boards.Boards.{Boards}

-- "The display shows up to sixteen boards"
abbrev pub most_boards : ℕ
most_boards = 16

-- "Each has a square": that in its row and column
abbrev pub square_of : Plan → Board → ℕ
square_of p b = square_at p.shape b.row b.column

-- any board, for a place past the end of a list
abbrev pub no_board : Board
no_board = record { row = 0; column = 0; mark = 0; highest = 0; reached = false; first = 0 }

-- ---- boards by value

abbrev pub no_boards : Boards
no_boards = record { count = 0; list = replicate most_boards no_board }

-- one more at the list's end; past the sixteenth they are only counted
unfoldable pub with_board : Boards → Board → Boards
with_board bs b = record { count = bs.count + 1; list = pick (ltb bs.count most_boards) (set bs.list bs.count b) bs.list }

-- those that are counted, as far as there is room
abbrev pub listed : Boards → List Board
listed bs = take bs.count bs.list

-- ---- refusal 13

-- "a board off the grid or on a closed square, or a mark depth above 100,000,000"
unfoldable pub board_fine : Plan → Board → Bool
board_fine p b =
    every
    (ltb b.row p.shape.rows
    ∷ ltb b.column p.shape.columns
    ∷ not (shut p (square_of p b))
    ∷ leb b.mark most_depth
    ∷ [])

-- "over sixteen boards", or one of the first so many that is not fine
unfoldable pub boards_fine : Plan → ℕ → List Board → Bool
boards_fine p n boards = every (leb n most_boards ∷ all_below n (λ k. board_fine p (get_or boards k no_board)) ∷ [])

-- ---- a board over the states of a run

module _ (p : Plan) (g : Given) (w : World) (b : Board) where
  -- "that run's starting state and every state after a step": how deep the board's square is after k steps
  unfoldable pub depth_after : ℕ → ℕ
  depth_after k = get_or (steps_on p g k w).depths (square_of p b) 0

  -- the first of the states 0 .. n in which the mark is reached, n + 1 where it is in none
  unfoldable pub first_reached : ℕ → ℕ
  first_reached n = first_failing (suc n) (λ k. not (leb b.mark (depth_after k)))

  -- "the highest depth seen, and the clock when the mark was first reached, if it was": over the states 0 .. n; "a record keeps its square
  -- and mark"
  unfoldable pub shown : ℕ → Board
  shown n =
      record {
        row = b.row;
        column = b.column;
        mark = b.mark;
        highest = most_over n depth_after;
        reached = leb (first_reached n) n;
        first = pick (leb (first_reached n) n) (steps_on p g (first_reached n) w).run.clock 0;
      }
