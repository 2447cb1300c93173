-- The greatest of a row of numbers, and the first of them that is as great.
-- Assumes nothing.
use Rattle.std.specs.Prelude.{◌≡◌, ℕ, zero, suc, ◌≤◌, ◌<◌, max, ltb}
use Rattle.reckon.specs.Tests.{pick}

-- the greatest of f 0 .. f n
unfoldable pub most_over : ℕ → (ℕ → ℕ) → ℕ
most_over zero f = f zero
most_over (suc n) f = max (most_over n f) (f (suc n))

-- the first of 0 .. n that has it
unfoldable pub first_most : ℕ → (ℕ → ℕ) → ℕ
first_most zero f = zero
first_most (suc n) f = pick (ltb (most_over n f) (f (suc n))) (suc n) (first_most n f)

-- so none is greater, that one is as great, and each before it is less
pub record MostIs (n : ℕ) (f : ℕ → ℕ) : Type 0 where
  pub none_greater : (k : ℕ) → k ≤ n → f k ≤ most_over n f
  pub among : first_most n f ≤ n
  pub reached : f (first_most n f) ≡ most_over n f
  pub first : (k : ℕ) → k < first_most n f → f k < most_over n f
