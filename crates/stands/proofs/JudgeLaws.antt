-- Laws of refusals 3, 4 and 6: a hatch that is not named is fine.
-- Assumes nothing.
use mathlib.Core.Path.{◌≡◌}
use mathlib.Core.Bool.{Bool, true, false, ◌||◌, not}

pub unnamed_fine : (named b : Bool) → named ≡ false → true ≡ (not named || b)
unnamed_fine named b e = rw e

pub named-judged : (named b : Bool) {r : Bool} → named ≡ true → r ≡ b → r ≡ (not named || b)
named-judged named b e h = rw e h
