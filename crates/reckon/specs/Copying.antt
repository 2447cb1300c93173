-- Numbers copied into a room: what the public function gives.
-- Assumes nothing.
use Rattle.std.specs.Prelude.{◌≡◌, List, ℕ}
use Rattle.reckon.specs.Lists.{placed}

abbrev pub Copied : List ℕ → List ℕ → ℕ → List ℕ → Type 0
Copied from old at new = new ≡ placed old at from
