-- Laws of a list placed over another, by the library's copy: stored number by number, and placed over all of it.
-- Assumes nothing.
use mathlib.Core.Path.{◌≡◌, sym, ap, ap₂, ◌∙◌}
use mathlib.Core.List.{List, ◌++◌, append_assoc}
use Prim.Native.Nat.{ℕ, ◌+◌, ◌≤◌, ◌<◌}
use native.Mathlib.Numerals.{add-one}
use native.Mathlib.Omega.{arith}
use lib.ListN.{length, get_or, set, take, drop}
use lib.Seq.{sets, sets-eq, paste, paste-suc, length-paste, drop-drop, take_all}
use Rattle.reckon.specs.Lists.{placed}

-- ---- a copy, number by number

module _ (old : List ℕ) (at : ℕ) (new : List ℕ) {i : ℕ} {room : List ℕ} (e : room ≡ paste old at new i) where
  pub pasted_long : at + i ≤ length old → i ≤ length new → length room ≡ length old
  pasted_long fits h = ap length e ∙ length-paste old at new i fits h

  pub pasted_more : at + i < length old → i < length new → set room (at + i) (get_or new i 0) ≡ paste old at new (i + 1)
  pasted_more fits h =
      ap (λ (r : List ℕ). set r (at + i) (get_or new i 0)) e ∙ (paste-suc old at new i 0 fits h ∙ ap (paste old at new) (sym (add-one i)))

  pub pasted_whole : i ≡ length new → room ≡ placed old at new
  unfolding placed
  pasted_whole whole =
      e
      ∙ (ap (paste old at new) whole
      ∙ (append_assoc (take at old) (take (length new) new) (drop (at + length new) old)
      ∙ ap₂ (λ (a b : List ℕ). take at old ++ (a ++ b)) (take_all (length new) new (omega arith)) (sym (drop-drop (length new) at old))))

-- ---- other ways to place a list

-- numbers stored one after the other
pub stored_placed : (l : List ℕ) (a : ℕ) (v : List ℕ) → a + length v ≤ length l → sets l a v ≡ placed l a v
unfolding placed
stored_placed l a v h =
    sets-eq v l a h
    ∙ (append_assoc (take a l) v (drop (a + length v) l) ∙ ap (λ (r : List ℕ). take a l ++ (v ++ r)) (sym (drop-drop (length v) a l)))
