-- Document 01, "The step" and "The record": amounts by square and side, and what goes, comes, leaves the grid and soaks by them. The step, the
-- take-back and the arrows all speak of amounts by these.
-- Assumes nothing.
use Rattle.std.specs.Prelude.{Bool, ℕ, ◌+◌}
use Rattle.reckon.specs.Tests.{pick}
use Rattle.reckon.specs.Lists.{sum_below}
use Rattle.grid.specs.Squares.{north, east, south, west, squares, within, beside, opposite}
use Rattle.grid.specs.Marks.{closed}
use Rattle.ledger.specs.Runs.{Plan}

-- the amount through a side of a square
abbrev pub Leaves : Type 0
Leaves = ℕ → ℕ → ℕ

-- a number of each side, summed over "north, east, south and west"
abbrev pub four_sides : (ℕ → ℕ) → ℕ
four_sides f = f north + f east + f south + f west

-- "four leaving"
unfoldable pub gone : Leaves → ℕ → ℕ
gone out i = four_sides (out i)

module _ (p : Plan) where
  abbrev pub shut : ℕ → Bool
  shut i = closed p.marks i

  -- what the neighbour on a side sent: "a closed square .. sent nothing"
  unfoldable pub sent : Leaves → ℕ → ℕ → ℕ
  sent out i side = pick (shut (beside p.shape i side)) 0 (out (beside p.shape i side) (opposite side))

  -- "what neighbours send"
  unfoldable pub came : Leaves → ℕ → ℕ
  came out i = four_sides (sent out i)

  -- what a square sends off the grid through a side
  unfoldable pub off_side : Leaves → ℕ → ℕ → ℕ
  off_side out i side = pick (within p.shape (beside p.shape i side)) 0 (out i side)

  -- "what squares not closed sent off the grid"
  unfoldable pub off_square : Leaves → ℕ → ℕ
  off_square out i = pick (shut i) 0 (four_sides (off_side out i))

  unfoldable pub off_grid : Leaves → ℕ
  off_grid out = sum_below (squares p.shape) (off_square out)

  -- document 02, #106, "the amount soaked": of a square not closed, and of all
  unfoldable pub soaked_square : (ℕ → ℕ) → ℕ → ℕ
  soaked_square soaked i = pick (shut i) 0 (soaked i)

  unfoldable pub soaked_grid : (ℕ → ℕ) → ℕ
  soaked_grid soaked = sum_below (squares p.shape) (soaked_square soaked)
