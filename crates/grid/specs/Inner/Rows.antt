-- What only our own functions ask of a row.
-- Assumes nothing.
use Rattle.std.specs.Prelude.{◌≡◌, ℕ, ◌+◌, ◌*◌, ◌%◌, ◌≤◌}
use Rattle.grid.specs.declared.squares.Shape.{Shape}
use Rattle.grid.specs.Squares.{squares}

-- "squares with water": at least this deep
abbrev pub least_wet : ℕ
least_wet = 1

-- a row of the grid, by its first square
pub record InRow (s : Shape) (first : ℕ) : Type 0 where
  pub begins : first % s.columns ≡ 0
  pub fits : first + s.columns ≤ squares s

-- a walk over so many rows of so many columns, at a row and its first square
pub record AtRow (rows columns row first : ℕ) : Type 0 where
  pub within : row ≤ rows
  pub begins : first ≡ row * columns
