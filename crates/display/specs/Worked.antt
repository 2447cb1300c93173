-- Document 02, #101, worked by hand with every number another one, and in words that a caller can check.
-- Assumes nothing.
use Rattle.std.specs.Prelude.{◌≡◌, true, false, List, [], ◌∷◌, ℕ, ◌≤◌, ◌<◌, replicate, set}
use Rattle.ledger.specs.Runs.{Plan, World, plan, world}
use Rattle.checks.specs.Given.{Given}
use Rattle.flood.specs.Run.{steps_on}
use Rattle.display.specs.Boards.{with_board, board_fine, boards_fine, depth_after, shown}
use Rattle.display.specs.declared.boards.Board.{Board}

-- ---- one state

-- 2 rows of 3, the last square of the first row closed
abbrev pub meadow : Plan
meadow = plan (record { rows = 2; columns = 3 }) (1 ∷ 1 ∷ 0 ∷ 1 ∷ 1 ∷ 2 ∷ [])

abbrev pub start : World
start = world (11 ∷ 12 ∷ 13 ∷ 14 ∷ 15 ∷ 16 ∷ []) [] [] (record { clock = 2_500; length = 700; outflow = 6; kept = 2; newest = 1; soaked = 4 })

-- a board with what a run before it left
abbrev pub board : ℕ → ℕ → ℕ → Board
board r c m = record { row = r; column = c; mark = m; highest = 99; reached = true; first = 77 }

-- ---- three states

-- 12, 31 and 25 µm deep, the second of them at a clock that is no other number here
pub record ThreeStates (p : Plan) (g : Given) (w : World) (b : Board) : Type 0 where
  pub depth_0 : depth_after p g w b 0 ≡ 12
  pub depth_1 : depth_after p g w b 1 ≡ 31
  pub depth_2 : depth_after p g w b 2 ≡ 25
  pub clock_1 : (steps_on p g 1 w).run.clock ≡ 2_600

-- ---- lists of boards

abbrev pub sixteen : List Board
sixteen = replicate 16 (board 1 2 100_000_000)

-- the last of them is off the grid
abbrev pub last_off : List Board
last_off = set sixteen 15 (board 2 0 5)

pub record BoardCases (g : Given) : Type 0 where
  pub met : shown meadow g start (board 1 0 14) 0 ≡ record { row = 1; column = 0; mark = 14; highest = 14; reached = true; first = 2_500 }
  pub unmet : shown meadow g start (board 0 1 13) 0 ≡ record { row = 0; column = 1; mark = 13; highest = 12; reached = false; first = 0 }
  -- the highest is not the last, and the mark was reached before the last
  pub met_later : (p : Plan) (w : World) → ThreeStates p g w (board 5 4 20) →
      shown p g w (board 5 4 20) 2 ≡ record { row = 5; column = 4; mark = 20; highest = 31; reached = true; first = 2_600 }
  pub met_at-last : (p : Plan) (w : World) → ThreeStates p g w (board 5 4 31) →
      shown p g w (board 5 4 31) 2 ≡ record { row = 5; column = 4; mark = 31; highest = 31; reached = true; first = 2_600 }
  pub never_met : (p : Plan) (w : World) → ThreeStates p g w (board 5 4 32) →
      shown p g w (board 5 4 32) 2 ≡ record { row = 5; column = 4; mark = 32; highest = 31; reached = false; first = 0 }
  pub on_grid : board_fine meadow (board 1 2 100_000_000) ≡ true
  pub off_rows : board_fine meadow (board 2 0 5) ≡ false
  pub off_columns : board_fine meadow (board 0 3 5) ≡ false
  pub on_closed : board_fine meadow (board 0 2 5) ≡ false
  pub mark_high : board_fine meadow (board 1 2 100_000_001) ≡ false
  pub none_listed : boards_fine meadow 0 [] ≡ true
  pub sixteen-fine : boards_fine meadow 16 sixteen ≡ true
  pub seventeen : boards_fine meadow 17 (board 1 0 5 ∷ sixteen) ≡ false
  pub last-looked-at : boards_fine meadow 16 last_off ≡ false
  pub rest_not_looked-at : boards_fine meadow 15 last_off ≡ true
  pub one_more : with_board (record { count = 15; list = sixteen }) (board 2 0 5) ≡ record { count = 16; list = last_off }
  pub no_room : with_board (record { count = 16; list = sixteen }) (board 2 0 5) ≡ record { count = 17; list = sixteen }

-- "those over that run's starting state and every state after a step"
pub record BoardSays (p : Plan) (g : Given) (w : World) (b : Board) (n : ℕ) : Type 0 where
  pub none_higher : (k : ℕ) → k ≤ n → depth_after p g w b k ≤ (shown p g w b n).highest
  pub some_so_high : (k : ℕ) × ((k ≤ n) × (depth_after p g w b k ≡ (shown p g w b n).highest))
  -- reached exactly where some state has the mark's depth, and first the clock of the first such
  pub reached-at : (k : ℕ) → k ≤ n → b.mark ≤ depth_after p g w b k → (shown p g w b n).reached ≡ true
  pub first-at : (shown p g w b n).reached ≡ true →
      (k : ℕ)
      × ((k ≤ n)
      × ((b.mark ≤ depth_after p g w b k)
      × (((shown p g w b n).first ≡ (steps_on p g k w).run.clock) × ((j : ℕ) → j < k → depth_after p g w b j < b.mark))))
  pub never : (shown p g w b n).reached ≡ false → ((shown p g w b n).first ≡ 0) × ((k : ℕ) → k ≤ n → depth_after p g w b k < b.mark)
  -- "a record keeps its square and mark"
  pub row_kept : (shown p g w b n).row ≡ b.row
  pub column-kept : (shown p g w b n).column ≡ b.column
  pub mark_kept : (shown p g w b n).mark ≡ b.mark
