-- What the inner functions of the arrows ask and give: depths and a record of their sizes, and the ranges of what is divided.
-- Assumes nothing.
use Rattle.std.specs.Prelude.{◌≡◌, true, List, ℕ, ◌+◌, ◌≤◌, ◌<◌, ◌^◌, Float, length, get_or}
use Rattle.reckon.specs.Ranges.{most_side, most_depth, most_length}
use Rattle.grid.specs.Squares.{squares}
use Rattle.ledger.specs.Runs.{Plan}
use Rattle.ledger.specs.Record.{lasted_in, Recorded}
use Rattle.sight.specs.Refusals.{depths_fine}
use Rattle.sight.specs.Arrows.{through_side}
use Rattle.sight.specs.declared.speeds.Through.{Through}

-- depths and a record, each of its size, the depths in range
pub record SightLent (p : Plan) (depths rec : List ℕ) : Type 0 where
  pub recorded : Recorded p rec
  pub depths_long : length depths ≡ squares p.shape
  pub depths-fine : depths_fine p depths ≡ true

-- D and how long the record's step lasted, in range
pub record Timed (D : ℕ) (rec : List ℕ) : Type 0 where
  pub side_to : D ≤ most_side
  pub lasted_some : 1 ≤ lasted_in rec
  pub lasted_to : lasted_in rec ≤ most_length

-- what went through a side, with its ranges
pub record Sided (p : Plan) (depths rec : List ℕ) (i side : ℕ) (t : Through) : Type 0 where
  pub is : t ≡ through_side p depths rec i side
  pub out_small : t.out < 2 ^ 32
  pub back_small : t.back < 2 ^ 32
  pub deep_low : get_or depths i 0 ≤ t.deep
  pub deep_to : t.deep ≤ most_depth + most_depth

-- the ranges in which "Every whole number here is exact in f64"
pub record Ranged (D lasted : ℕ) (t : Through) : Type 0 where
  pub side_to : D ≤ most_side
  pub lasted_some : 0 < lasted
  pub lasted_to : lasted ≤ most_length
  pub out_small : t.out < 2 ^ 32
  pub back_small : t.back < 2 ^ 32
  pub deep_some : 0 < t.deep
  pub deep_to : t.deep ≤ most_depth + most_depth

-- the rooms for the arrows of all squares, one number a square each
pub record RoomsLong (n : ℕ) (kinds : List ℕ) (east north : List Float) : Type 0 where
  pub kinds_long : length kinds ≡ n
  pub east_long : length east ≡ n
  pub north_long : length north ≡ n
