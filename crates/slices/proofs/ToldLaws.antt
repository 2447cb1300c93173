-- The line that is told is short.
-- Assumes nothing.
use mathlib.Core.List.{[], ◌∷◌}
use Prim.Native.Nat.{ℕ, zero, suc, ◌^◌, ◌≤◌, ◌<◌}
use native.Mathlib.Nat.{not-suc-le-zero, le_of_suc-le-suc}
use native.Mathlib.Omega.{arith}
use lib.ListN.{length, get_or}
use Rattle.text.proofs.WritingLaws.{line_text_long, fields_text_short}
use Rattle.slices.specs.Inner.Telling.{reached_word, told_text, most_told}

two_below : (n a b : ℕ) → a < n → b < n → (i : ℕ) → i < 2 → get_or (a ∷ b ∷ []) i 0 < n
two_below n a b h g zero l = h
two_below n a b h g (suc zero) l = g
two_below n a b h g (suc (suc i)) l = absurd (not-suc-le-zero (le_of_suc-le-suc (le_of_suc-le-suc l)))

pub told-short : (steps clock : ℕ) → steps < 2 ^ 64 → clock < 2 ^ 64 → length (told_text steps clock) ≤ most_told
unfolding told_text
told-short steps clock h g =
    omega (
      arith,
      line_text_long reached_word (steps ∷ clock ∷ []),
      fields_text_short 19 (steps ∷ clock ∷ []) (two_below (10 ^ 20) steps clock (omega arith) (omega arith)),
    )
