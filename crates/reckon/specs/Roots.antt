-- Document 01, "The step": "the largest whole number with h³ ≤ d²", and the two square roots beside it.
-- Assumes nothing.
use Rattle.std.specs.Prelude.{ℕ, zero, suc, ◌+◌, ◌^◌, ◌≤◌, ◌<◌, leb}
use Rattle.reckon.specs.Tests.{pick}

-- r is the largest whole number whose p-th power is at most n
pub record Root (p n r : ℕ) : Type 0 where
  pub low : r ^ p ≤ n
  pub high : n < (r + 1) ^ p

-- The same as a number that computes: from r, each of the lower k binary digits is set where the power stays at most n.
unfoldable pub root_from : ℕ → ℕ → ℕ → ℕ → ℕ
root_from p n zero r = r
root_from p n (suc k) r = root_from p n k (pick (leb ((r + 2 ^ k) ^ p) n) (r + 2 ^ k) r)

-- the p-th root of n below 2 ^ 64, for p of 2 or more (`root_right` proves that it is one, `root_is` that there is no other)
unfoldable pub root_of : ℕ → ℕ → ℕ
root_of p n = root_from p n 32 0
