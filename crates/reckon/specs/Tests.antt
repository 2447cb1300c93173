-- Choices and tests: the words in which every check and every refusal is stated.
-- Assumes nothing.
use Rattle.std.specs.Prelude.{Bool, true, false, ◌&&◌, List, [], ◌∷◌, ℕ, zero, suc}

-- the first of two where the test holds, else the second
unfoldable pub pick : {A : Type 0} → Bool → A → A → A
pick true a b = a
pick false a b = b

-- each test of a list holds
unfoldable pub every : List Bool → Bool
every [] = true
every (b ∷ bs) = b && every bs

-- the test holds of each of 0 .. n - 1
unfoldable pub all_below : ℕ → (ℕ → Bool) → Bool
all_below zero f = true
all_below (suc n) f = all_below n f && f n

-- the first of 0 .. n - 1 of which the test fails; n where there is none
unfoldable pub first_failing : ℕ → (ℕ → Bool) → ℕ
first_failing zero f = zero
first_failing (suc n) f = pick (f zero) (suc (first_failing n (λ k. f (suc k)))) zero

-- A row of a table of refusals: its number, and the test that holds where the row does not apply.
pub record Row : Type 0 where
  pub number : ℕ
  pub fine : Bool

infix 70 ◌unless◌
abbrev pub ◌unless◌ : ℕ → Bool → Row
number unless fine = record { number = number; fine = fine }

-- the number of the first row whose test fails, 0 where none does
unfoldable pub refusal : List Row → ℕ
refusal [] = 0
refusal (r ∷ rs) = pick r.fine (refusal rs) r.number
