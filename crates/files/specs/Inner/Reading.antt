-- What one read of a file leaves in a room, at a position of it, and how much of a room is handed on.
-- Assumes nothing.
use Rattle.std.specs.Prelude.{◌≡◌, Option, IfSome, IfNone, List, ℕ, ◌≤◌, length, drop}
use Rattle.reckon.specs.Tests.{pick}
use Rattle.files.specs.declared.Came.{Came}

-- bytes came from `at` to `to`, and what stood after them stays
pub record CameOn (at to : ℕ) (old new : List ℕ) : Type 0 where
  pub long : length new ≡ length old
  pub on : at ≤ to
  pub within : to ≤ length old
  pub rest : drop to new ≡ drop to old

-- what one read came to: the position after what came, or none where it failed, and then the room stays
pub record ReadOn (at : ℕ) (old new : List ℕ) (r : Option ℕ) : Type 0 where
  pub some : IfSome r (λ to. CameOn at to old new)
  pub none : IfNone r (new ≡ old)

-- the bytes of a room of so many that are handed on: all of it where the file did not come whole
abbrev pub handed_of : Came → ℕ → ℕ
handed_of came room = pick came.whole came.length room
