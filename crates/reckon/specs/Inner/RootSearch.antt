-- What the search for a root asks of its inner functions. No public promise names these.
-- Assumes nothing.
use Rattle.std.specs.Prelude.{◌≡◌, ℕ, ◌+◌, ◌^◌, ◌≤◌, ◌<◌}

-- a power that roots are taken of here
pub record SmallPower (p : ℕ) : Type 0 where
  pub two : 2 ≤ p
  pub three : p ≤ 3

-- the p-th root of n can be asked for
pub record Asked (p n : ℕ) : Type 0 where
  pub power : SmallPower p
  pub small : n < 10 ^ 18

abbrev pub PowerOfTen : ℕ → Type 0
PowerOfTen place = (k : ℕ) × (place ≡ 10 ^ k)

-- a place of the root: ones, tens, hundreds, as far up as a root can have digits
pub record Place (p place : ℕ) : Type 0 where
  pub tens : PowerOfTen place
  pub most : place ^ p ≤ 10 ^ 18

-- a place above the root of n
pub record Above (p n above : ℕ) : Type 0 where
  pub place : Place p above
  pub beyond : n < above ^ p

-- the digit at `place` is raised as far as it goes: the power of r still fits into n, that of one more does not
pub record Raised (p n place r : ℕ) : Type 0 where
  pub fits : r ^ p ≤ n
  pub full : n < (r + place) ^ p
