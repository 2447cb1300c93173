-- The wall rule: what amounts keep to so that no water enters a closed square, where they go, and what leaves one as it was.
-- Assumes nothing.
use Rattle.std.specs.Prelude.{◌≡◌, true, false, ℕ, ◌<◌, get_or}
use Rattle.reckon.specs.Tests.{pick}
use Rattle.reckon.specs.Lists.{sum_below}
use Rattle.grid.specs.Squares.{sides, squares, within, beside, opposite}
use Rattle.grid.specs.Marks.{exit}
use Rattle.ledger.specs.Runs.{Plan, World}
use Rattle.ledger.specs.Flows.{Leaves, four_sides, shut, sent, off_side}

pub record Walled (p : Plan) (out : Leaves) : Type 0 where
  -- a closed square "sent nothing"
  pub closed_in : (i side : ℕ) → i < squares p.shape → side < sides → shut p i ≡ true → out i side ≡ 0
  -- "walls that no water enters": "towards a closed square .., 0"
  pub walled : (i side : ℕ) → i < squares p.shape → side < sides → within p.shape (beside p.shape i side) ≡ true →
      shut p (beside p.shape i side) ≡ true → out i side ≡ 0
  -- ".. or off the grid, 0; but off the grid from an exit"
  pub rimmed : (i side : ℕ) → i < squares p.shape → side < sides → within p.shape (beside p.shape i side) ≡ false →
      exit p.marks i ≡ false → out i side ≡ 0

module _ (p : Plan) (out : Leaves) where
  -- what goes through a side of a square and comes to the neighbour there, which is not closed
  unfoldable pub reaches : ℕ → ℕ → ℕ
  reaches i side =
      pick (within p.shape (beside p.shape i side))
      (pick (shut p (beside p.shape i side)) 0 (sent p out (beside p.shape i side) (opposite side))) 0

  -- what goes through a side of a square, which is an exit, and leaves the grid
  unfoldable pub drains : ℕ → ℕ → ℕ
  drains i side = pick (exit p.marks i) (off_side p out i side) 0

  -- what the neighbours of a square, closed or not, send through their sides towards it
  unfoldable pub sent_towards : ℕ → ℕ → ℕ
  sent_towards i side = pick (within p.shape (beside p.shape i side)) (out (beside p.shape i side) (opposite side)) 0

  -- "walls that no water enters": all that arrives in closed squares
  unfoldable pub into_walls : ℕ
  into_walls = sum_below (squares p.shape) (λ i. pick (shut p i) (four_sides (sent_towards i)) 0)

-- "What a closed square holds is not altered": depth and last leaving of closed squares are the same in both worlds
pub record Untouched (p : Plan) (old new : World) : Type 0 where
  pub depth_stays : (i : ℕ) → shut p i ≡ true → get_or new.depths i 0 ≡ get_or old.depths i 0
  pub last_stays : (i : ℕ) → shut p i ≡ true → get_or new.lasts i 0 ≡ get_or old.lasts i 0
