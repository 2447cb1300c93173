-- Document 02, #108: the water that a state holds, lost or not.
-- Assumes nothing.
use Rattle.std.specs.Prelude.{List, ℕ, ◌+◌, get_or}
use Rattle.reckon.specs.Tests.{pick}
use Rattle.reckon.specs.Lists.{sum_below}
use Rattle.grid.specs.Squares.{squares}
use Rattle.ledger.specs.Runs.{Plan, World}
use Rattle.ledger.specs.Flows.{shut}

module _ (p : Plan) where
  -- a number of each square not closed, summed
  unfoldable pub over_open : (ℕ → ℕ) → ℕ
  over_open f = sum_below (squares p.shape) (λ i. pick (shut p i) 0 (f i))

  -- "water on squares not closed"
  unfoldable pub water : List ℕ → ℕ
  water depths = over_open (λ i. get_or depths i 0)

  -- ".. plus outflow, plus soaked"
  unfoldable pub held : World → ℕ
  held w = water w.depths + w.run.outflow + w.run.soaked
