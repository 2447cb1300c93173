-- Small numbers, and what each function over them gives.
-- Assumes nothing.
use Rattle.std.specs.Prelude.{◌≡◌, List, ℕ, ◌*◌, ◌/◌, min, max, get_or}

-- the part x / y of d, held to d
unfoldable pub held_part : ℕ → ℕ → ℕ → ℕ
held_part d x y = min d (x * d / y)

-- ---- what the public functions give

abbrev pub Lesser : ℕ → ℕ → ℕ → Type 0
Lesser a b r = r ≡ min a b

abbrev pub Greater : ℕ → ℕ → ℕ → Type 0
Greater a b r = r ≡ max a b

abbrev pub NumberAt : List ℕ → ℕ → ℕ → Type 0
NumberAt list at r = r ≡ get_or list at 0

abbrev pub PartOf : ℕ → ℕ → ℕ → ℕ → Type 0
PartOf d x y r = r ≡ held_part d x y
