-- A walk over the columns of a row that a mask has, for laws about loops: nothing happens at those that it passes.
-- Assumes nothing.
use Rattle.std.specs.Prelude.{◌≡◌, true, false, ℕ, ◌+◌, ◌^◌, ◌≤◌, ◌<◌}
use Rattle.grid.specs.Masks.{bits, bit_at}

-- what holds of the columns before one that the mask does not have holds of that one too
abbrev pub Passes : ℕ → ℕ → (ℕ → Type 0) → Type 0
Passes mask columns holds = (column : ℕ) → column < columns → bit_at mask column ≡ false → holds column → holds (column + 1)

-- the walk at a column that the mask has, or at the row's end, and what holds of all columns before it
pub record Visits (mask columns : ℕ) (holds : ℕ → Type 0) (column : ℕ) : Type 0 where
  pub within : column ≤ columns
  pub visited : column < columns → bit_at mask column ≡ true
  pub held : holds column

-- the same walk by what rests of the mask: its columns from one on, and what holds of all columns before that one
pub record Rests (mask columns : ℕ) (holds : ℕ → Type 0) (rest : ℕ) : Type 0 where
  pub from : ℕ
  pub within : from ≤ columns
  pub held : holds from
  pub small : rest < 2 ^ bits
  pub before : (k : ℕ) → k < from → bit_at rest k ≡ false
  pub same : (k : ℕ) → from ≤ k → k < columns → bit_at rest k ≡ bit_at mask k
  pub beyond : (k : ℕ) → columns ≤ k → bit_at rest k ≡ false
