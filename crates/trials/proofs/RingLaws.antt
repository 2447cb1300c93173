-- Laws of the ring: one slot back undoes one slot on, and fewer than K places back lies another slot.
-- Assumes nothing.
use mathlib.Core.Path.{◌≡◌, refl, sym, ◌∙◌}
use mathlib.Core.Bool.{Bool, true, false}
use mathlib.Core.List.{List, [], ◌∷◌}
use mathlib.Core.Logic.{◌≢◌}
use Prim.Native.Nat.{ℕ, zero, suc, ◌+◌, ◌-◌, ◌≤◌, ◌<◌}
use native.Mathlib.Nat.{mul_comm}
use native.Mathlib.Omega.{arith}
use native.Mathlib.Decide.{dec_le, dec_lt}
use lib.Dec.{ltb, leb}
use borrow.Author.Tests.{ltb-true, leb-true, lt-ltb, le-ltb, le-leb, lt-leb}
use Rattle.reckon.proofs.TestLaws.{pick_true, pick_false, every_each, each_every, every_fails}
use Rattle.reckon.proofs.QuotientLaws.{part_within}
use Rattle.trials.specs.Ring.{slots_in, slot_start, slot_after, slot_before, slot_ago, kept_after, ring_fine}

-- ---- a slot of a room lies within it
pub slot_within : (size : ℕ) {w numbers : ℕ} → 0 < size → w < slots_in size numbers → slot_start size w + size ≤ numbers
slot_within size {w} pos h = omega (arith, part_within size pos h, mul_comm w size)

-- ---- the slot after

module _ (K w : ℕ) where
  pub after_next : w + 1 < K → slot_after K w ≡ w + 1
  unfolding slot_after
  after_next h = pick_true (suc w) 0 (lt-ltb (suc w) K (omega arith)) ∙ omega arith

  pub after_last : K ≤ w + 1 → slot_after K w ≡ 0
  unfolding slot_after
  after_last h = pick_false (suc w) 0 (le-ltb (suc w) K (omega arith))

pub after_below : (K w : ℕ) → 0 < K → slot_after K w < K
after_below K w pos = go (dec_lt (w + 1) K)
  where
    go : Dec (w + 1 < K) → slot_after K w < K
    go (yes h) = rw (after_next K w h) h
    go (no h) = rw (after_last K w (omega arith)) pos

-- ---- the slot before

pub before-first : (K w : ℕ) → w ≡ 0 → slot_before K w ≡ K - 1
unfolding slot_before
before-first K w e = rw e

pub before_later : (K w : ℕ) → w ≢ 0 → slot_before K w ≡ w - 1
unfolding slot_before
before_later K zero h = absurd (h refl)
before_later K (suc w) h = omega arith

pub before_below : (K w : ℕ) → w < K → slot_before K w < K
unfolding slot_before
before_below K zero h = omega arith
before_below K (suc w) h = omega arith

pub before-after : (K w : ℕ) → w < K → slot_before K (slot_after K w) ≡ w
before-after K w h = go (dec_lt (w + 1) K)
  where
    go : Dec (w + 1 < K) → slot_before K (slot_after K w) ≡ w
    go (yes l) = rw (after_next K w l) (omega (arith, before_later K (w + 1) (λ e. omega arith)))
    go (no l) = rw (after_last K w (omega arith)) (omega (arith, before-first K 0 refl))

-- ---- the slot j places before

pub ago_none : (K w : ℕ) → slot_ago K w 0 ≡ w
unfolding slot_ago
ago_none K w = refl

pub ago_more : (K w j : ℕ) → slot_ago K w (suc j) ≡ slot_ago K (slot_before K w) j
unfolding slot_ago
ago_more K w j = refl

pub ago_below : (K j w : ℕ) → w < K → slot_ago K w j < K
unfolding slot_ago
ago_below K zero w h = h
ago_below K (suc j) w h = ago_below K j (slot_before K w) (before_below K w h)

ago_low : (K j w : ℕ) → j ≤ w → slot_ago K w j ≡ w - j
unfolding slot_ago slot_before
ago_low K zero w h = omega arith
ago_low K (suc j) zero h = omega arith
ago_low K (suc j) (suc w) h = omega (arith, ago_low K j w (omega arith))

ago_high : (K j w : ℕ) → w < K → w < j → j ≤ K → slot_ago K w j ≡ w + K - j
unfolding slot_ago slot_before
ago_high K zero w b h k = omega arith
ago_high K (suc j) zero b h k = omega (arith, ago_low K j (K - 1) (omega arith))
ago_high K (suc j) (suc w) b h k = omega (arith, ago_high K j w (omega arith) (omega arith) (omega arith))

pub ago_other : (K j w : ℕ) → w < K → suc j < K → slot_ago K w (suc j) ≢ w
ago_other K j w b h e = go (dec_le (suc j) w)
  where
    go : Dec (suc j ≤ w) → ⊥
    go (yes l) = omega (arith, ago_low K (suc j) w l)
    go (no l) = omega (arith, ago_high K (suc j) w b (omega arith) (omega arith))

-- ---- K, kept and newest in range

pub record Ring (K kept newest : ℕ) : Type 0 where
  pub some : 0 < K
  pub kept_fits : kept ≤ K
  pub newest_below : newest < K

-- they stay so after a step
pub ring_after : {K kept newest : ℕ} → Ring K kept newest → Ring K (kept_after K kept) (slot_after K newest)
ring_after {K} {kept} {newest} r =
    record { some = r.some; kept_fits = omega arith; newest_below = after_below K newest r.some }

module _ (K kept newest : ℕ) where
  abbrev tests : List Bool
  tests = ltb 0 K ∷ leb kept K ∷ ltb newest K ∷ []

  pub fine_ring : ring_fine K kept newest ≡ true → Ring K kept newest
  unfolding ring_fine
  fine_ring e =
      let h = every_each tests e in
      record { some = ltb-true 0 K h.0; kept_fits = leb-true kept K h.1.0; newest_below = ltb-true newest K h.1.1.0 }

  pub ring-fine : Ring K kept newest → ring_fine K kept newest ≡ true
  unfolding ring_fine
  ring-fine r = each_every tests (lt-ltb 0 K r.some, (le-leb kept K r.kept_fits, (lt-ltb newest K r.newest_below, tt)))

  -- each way in which it fails
  pub none_fails : K ≡ 0 → ring_fine K kept newest ≡ false
  unfolding ring_fine
  none_fails e = every_fails tests 0 (le-ltb 0 K (omega arith))

  pub kept_fails : K < kept → ring_fine K kept newest ≡ false
  unfolding ring_fine
  kept_fails h = every_fails tests 1 (lt-leb kept K h)

  pub newest_fails : K ≤ newest → ring_fine K kept newest ≡ false
  unfolding ring_fine
  newest_fails h = every_fails tests 2 (le-ltb newest K h)

  -- where K and kept are in range, newest decides
  pub newest_decides : 0 < K → kept ≤ K → ring_fine K kept newest ≡ ltb newest K
  newest_decides h l = go (dec_lt newest K)
    where
      go : Dec (newest < K) → ring_fine K kept newest ≡ ltb newest K
      go (yes m) = ring-fine (record { some = h; kept_fits = l; newest_below = m }) ∙ sym (lt-ltb newest K m)
      go (no m) = newest_fails (omega arith) ∙ sym (le-ltb newest K (omega arith))
