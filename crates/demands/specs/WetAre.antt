-- Document 01, "Wet rows": the row slice and the count, bit by bit and square by square.
-- Assumes nothing.
use Rattle.std.specs.Prelude.{◌≡◌, ◌&&◌, List, ℕ, ◌<◌, ltb, length, get_or}
use Rattle.grid.specs.Squares.{square_at}
use Rattle.grid.specs.Masks.{is_wet, bit_at}
use Rattle.ledger.specs.Runs.{Plan}
use Rattle.sight.specs.WetRows.{ones_over, wet_squares}

-- of rows that were given with a count
pub record WetAre (p : Plan) (depths : List ℕ) (least : ℕ) (rows : List ℕ) (count : ℕ) : Type 0 where
  -- "each grid row becomes one 64-bit number"
  pub one_a_row : length rows ≡ p.shape.rows
  -- "bit c set exactly when the square in column c is not closed and at least a given depth .. deep", and no bit past the last column
  pub bits : (row column : ℕ) → row < p.shape.rows →
      bit_at (get_or rows row 0) column ≡ (ltb column p.shape.columns && is_wet p.marks depths least (square_at p.shape row column))
  -- "The wet count is the number of ones over all rows": the wet squares, counted one by one
  pub ones_over : count ≡ ones_over rows
  pub squares_wet : count ≡ wet_squares p depths least
