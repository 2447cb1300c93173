-- One vocabulary of lists for all crates: lists by rule, rooms filled in part, lists joined and placed, sums.
-- Assumes nothing.
use Rattle.std.specs.Prelude.{Bool, ◌||◌, List, [], ◌∷◌, ◌++◌, ℕ, zero, suc, ◌+◌, leb, length, get_or, take, drop}
use Rattle.reckon.specs.Tests.{pick}

-- f 0, f 1, .. f (n - 1)
unfoldable pub tabulate : ℕ → (ℕ → ℕ) → List ℕ
tabulate zero f = []
tabulate (suc n) f = f zero ∷ tabulate n (λ k. f (suc k))

-- a room with f's numbers in its first n places; from n on, and at places that are skipped, the old number
unfoldable pub filled : ℕ → (ℕ → Bool) → (ℕ → ℕ) → List ℕ → List ℕ
filled n skipped f old = tabulate (length old) (λ i. pick (leb n i || skipped i) (get_or old i 0) (f i))

-- f 0, then f 1, .. up to f (n - 1), in one list
unfoldable pub joined : ℕ → (ℕ → List ℕ) → List ℕ
joined zero f = []
joined (suc n) f = joined n f ++ f n

-- a list with a new one over it, from place a on
unfoldable pub placed : List ℕ → ℕ → List ℕ → List ℕ
placed old a new = take a old ++ (new ++ drop (length new) (drop a old))

-- f 0 + f 1 + .. + f (n - 1)
unfoldable pub sum_below : ℕ → (ℕ → ℕ) → ℕ
sum_below zero f = 0
sum_below (suc n) f = sum_below n f + f n
