-- Laws of texts that are joined: how long they can get, how they are put into a room one after the other, and where each of them stands.
-- Assumes nothing.
use mathlib.Core.Path.{◌≡◌, sym, ap, subst, ◌∙◌}
use mathlib.Core.List.{List}
use Prim.Native.Nat.{ℕ, zero, suc, ◌+◌, ◌*◌, ◌≤◌, ◌<◌}
use native.Mathlib.Nat.{le_refl, not-suc-le-zero, mul-suc}
use native.Mathlib.Decide.{ℕ_discrete}
use native.Mathlib.Omega.{arith}
use lib.ListN.{length, length-append}
use Rattle.reckon.specs.Lists.{joined, placed}
use Rattle.reckon.proofs.ListLaws.{joined_none, joined_more}
use Rattle.text.specs.Writing.{Wrote}
use Rattle.text.specs.Inner.Standing.{StandsAt}
use Rattle.text.proofs.ReadingLaws.{by_lt}
use Rattle.text.proofs.StandLaws.{stands_first, stands_second}
use Rattle.text.proofs.WritingLaws.{placed_none, wrote_both, wrote_length}

pub joined-short : (n k : ℕ) (f : ℕ → List ℕ) → ((i : ℕ) → i < n → length (f i) ≤ k) → length (joined n f) ≤ k * n
unfolding joined
joined-short zero k f h = omega arith
joined-short (suc n) k f h =
    omega (
      arith,
      length-append (joined n f) (f n),
      joined-short n k f (λ i l. h i (omega arith)),
      h n (omega arith),
      mul-suc k n,
    )

-- ---- put into a room one after the other

joined-within : (f : ℕ → List ℕ) (n i : ℕ) → i ≤ n → length (joined i f) ≤ length (joined n f)
unfolding joined
joined-within f zero i h = subst (λ (k : ℕ). length (joined k f) ≤ length (joined zero f)) (let e : 0 ≡ i = omega arith in e) (le_refl _)
joined-within f (suc n) i h =
    by_lt i (suc n) (λ l. omega (arith, length-append (joined n f) (f n), joined-within f n i (omega arith)))
    (λ l. subst (λ (k : ℕ). length (joined k f) ≤ length (joined (suc n) f)) (let e : suc n ≡ i = omega arith in e) (le_refl _))

module _ (f : ℕ → List ℕ) (n at : ℕ) (old : List ℕ) (fits : at + length (joined n f) ≤ length old) where
  so_far_fits : (i : ℕ) → i ≤ n → at + length (joined i f) ≤ length old
  so_far_fits i l = omega (arith, fits, joined-within f n i l)

  next_fits : (i : ℕ) → i < n → at + length (joined i f) + length (f i) ≤ length old
  next_fits i l = omega (arith, so_far_fits (i + 1) (omega arith), ap length (joined_more i f), length-append (joined i f) (f i))

  module _ (i : ℕ) {room : List ℕ} {next : ℕ} (w : Wrote (joined i f) at old room next) where
    pub lines_length : i ≤ n → length room ≡ length old
    lines_length l = wrote_length (so_far_fits i l) w

    pub line_fits : i < n → next + length (f i) ≤ length room
    line_fits l = omega (arith, w.next, next_fits i l, lines_length (omega arith))

    pub line_written : {new : List ℕ} {r : ℕ} → i < n → Wrote (f i) next room new r → Wrote (joined (i + 1) f) at old new r
    line_written {new} {r} l v = subst (λ (t : List ℕ). Wrote t at old new r) (sym (joined_more i f)) (wrote_both (next_fits i l) w v)

pub none_written : (f : ℕ → List ℕ) (at : ℕ) (room : List ℕ) → Wrote (joined 0 f) at room room at
none_written f at room =
    record {
      next = omega (arith, ap length (joined_none f));
      room = sym (ap (placed room at) (joined_none f) ∙ placed_none room at);
    }

-- all of them
pub lines_whole :
    (f : ℕ → List ℕ) {i n at next : ℕ} {old room : List ℕ} → i ≡ n → Wrote (joined i f) at old room next → Wrote (joined n f) at old room next
lines_whole f {at = at} {next} {old} {room} e w = subst (λ (k : ℕ). Wrote (joined k f) at old room next) e w

-- ---- standing one after the other

-- where text i starts, the first at p
abbrev pub start_of : ℕ → (ℕ → List ℕ) → ℕ → ℕ
start_of p f i = p + length (joined i f)

pub joined_stands :
    {s : List ℕ} {p q : ℕ} (n : ℕ) (f : ℕ → List ℕ) → StandsAt s p (joined n f) q → (i : ℕ) → i < n →
    StandsAt s (start_of p f i) (f i) (start_of p f (suc i))
unfolding joined
joined_stands zero f a i h = absurd (not-suc-le-zero h)
joined_stands {s} {p} {q} (suc n) f a i h = go (ℕ_discrete i n) (λ l. joined_stands {q = p + length (joined n f)} n f (stands_first (joined n f) (f n) a) i l)
  where
    go : Dec (i ≡ n) → (i < n → StandsAt s (start_of p f i) (f i) (start_of p f (suc i))) → StandsAt s (start_of p f i) (f i) (start_of p f (suc i))
    go (yes e) g = rw e (subst (λ (k : ℕ). StandsAt s (start_of p f n) (f n) k) a.after (stands_second (joined n f) (f n) a))
    go (no d) g = g (omega arith)
