-- The lines of a log come to an end: each that is taken has a higher number, and none has one above the log's bytes.
-- Assumes nothing.
use mathlib.Core.Path.{◌≡◌, refl, ap, ◌∙◌}
use mathlib.Core.Bool.{Bool, true, false}
use mathlib.Core.List.{List}
use Prim.Native.Nat.{ℕ, suc, ◌+◌, ◌-◌, ◌≤◌, ◌<◌}
use native.Mathlib.Omega.{arith}
use lib.ListN.{length}
use Rattle.reckon.specs.Tests.{pick}
use Rattle.reckon.proofs.TestLaws.{pick_true, pick_false, every_each}
use Rattle.evenings.specs.Program.{Stores, is_left, night_fits, night_next, night_over, night_after}
use Rattle.evenings.specs.declared.program.Night.{Night}
use Rattle.evenings.proofs.NightLaws.{left_at, fine_is}

-- how many more lines there can be
unfoldable pub lines_left : ℕ → Night → ℕ
lines_left long n = pick n.more (suc (long + 1 - n.line)) 0

none_left : (long : ℕ) (n : Night) → n.more ≡ false → lines_left long n ≡ 0
unfolding lines_left
none_left long n e = pick_false _ _ e

module _ (s : List ℕ) (n : Night) (r : Stores) {a : Night} (e : a ≡ night_after s n r) (m : n.more ≡ true) where
  some : lines_left (length s) n ≡ suc (length s + 1 - n.line)
  unfolding lines_left
  some = pick_true _ _ m

  over : {k : ℕ} → a ≡ night_over n k → lines_left (length s) a < lines_left (length s) n
  over h = omega (arith, none_left (length s) a (ap (λ (x : Night). x.more) h), some)

  next : is_left s n ≡ true → night_fits n r ≡ true → a ≡ night_next s n r → lines_left (length s) a < lines_left (length s) n
  unfolding lines_left night_fits pick
  next l f h =
      let line = (fine_is n (every_each _ f).0).line in
      let at = left_at s n l in
      let same : a.line ≡ n.line + 1 = ap (λ (x : Night). x.line) h in
      go a.more line at same
    where
      go : (b : Bool) → n.line ≤ n.at + 1 → n.at < length s → a.line ≡ n.line + 1 → pick b (suc (length s + 1 - a.line)) 0 < lines_left (length s) n
      go true i j k = omega (arith, some)
      go false i j k = omega (arith, some)

  pub fewer_left : lines_left (length s) a < lines_left (length s) n
  unfolding night_after
  fewer_left = go (is_left s n) refl (night_fits n r) refl
    where
      go : (b : Bool) → is_left s n ≡ b → (c : Bool) → night_fits n r ≡ c → lines_left (length s) a < lines_left (length s) n
      go false l c f = over (e ∙ pick_false _ _ l)
      go true l false f = over (e ∙ (pick_true _ _ l ∙ pick_false _ _ f))
      go true l true f = next l f (e ∙ (pick_true _ _ l ∙ pick_true _ _ f))
