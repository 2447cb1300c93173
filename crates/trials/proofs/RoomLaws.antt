-- The three room laws that an engine owes, for records of one size in a list of numbers: slots lie apart.
-- Assumes nothing.
use mathlib.Core.Path.{◌≡◌, sym, ap, ◌∙◌, subst}
use mathlib.Core.List.{List, ◌++◌}
use mathlib.Core.Logic.{◌≢◌}
use Prim.Native.Nat.{ℕ, suc, ◌+◌, ◌-◌, ◌≤◌, ◌<◌}
use native.Mathlib.Nat.{suc-mul, mul-le-mul_right}
use native.Mathlib.Omega.{arith}
use native.Mathlib.Decide.{dec_lt}
use lib.ListN.{length, get_or, take, drop, length-take, length-drop}
use lib.Seq.{ext_get_or, get_or-take, get_or-drop, length-take-le, take_at, drop_at}
use Rattle.reckon.specs.Lists.{placed}
use Rattle.reckon.proofs.ListLaws.{length-placed, placed-before, placed_in, placed-after}
use Rattle.trials.specs.Ring.{slots_in, slot_start}
use Rattle.trials.specs.Room.{record_in, stored_in}
use Rattle.trials.proofs.RingLaws.{slot_within}

-- a part of a list is known by its length and its elements
same_part : (n a : ℕ) (l m : List ℕ) → length l ≡ length m → ((p : ℕ) → p < n → get_or l (a + p) 0 ≡ get_or m (a + p) 0)
    → take n (drop a l) ≡ take n (drop a m)
same_part n a l m e h =
    ext_get_or 0 (take n (drop a l)) (take n (drop a m))
    (length-take n (drop a l) ∙ rw (length-drop a l, e, ← length-drop a m, ← length-take n (drop a m)))
    (λ p b.
    let c : p < n = omega (arith, length-take n (drop a l)) in
    get_or-take n (drop a l) p 0 c ∙ (get_or-drop a l p 0 ∙ (h p c ∙ (sym (get_or-drop a m p 0) ∙ sym (get_or-take n (drop a m) p 0 c)))))

module _ (size : ℕ) (pos : 0 < size) (room : List ℕ) (w : ℕ) (new : List ℕ) (fits : length new ≡ size) (within : w < slots_in size (length room)) where
  inside : slot_start size w + length new ≤ length room
  inside = omega (arith, slot_within size pos within)

  pub length_stored : length (stored_in size room w new) ≡ length room
  length_stored = length-placed room (slot_start size w) new inside

  pub slots_stored : slots_in size (length (stored_in size room w new)) ≡ slots_in size (length room)
  slots_stored = ap (slots_in size) length_stored

  pub read_stored : record_in size (stored_in size room w new) w ≡ new
  unfolding record_in placed
  read_stored =
      let a : ℕ = slot_start size w in
      let rest : List ℕ = drop (length new) (drop a room) in
      ap (take size) (drop_at (take a room) (new ++ rest) a (length-take-le a room (omega (arith, inside)))) ∙ take_at new rest size fits

  pub read_other : (u : ℕ) → u ≢ w → record_in size (stored_in size room w new) u ≡ record_in size room u
  unfolding record_in
  read_other u d = same_part size (slot_start size u) (stored_in size room w new) room length_stored (λ p l. go p l (dec_lt u w))
    where
      go : (p : ℕ) → p < size → Dec (u < w) → get_or (stored_in size room w new) (slot_start size u + p) 0 ≡ get_or room (slot_start size u + p) 0
      go p l (yes h) =
          placed-before room (slot_start size w) new inside (slot_start size u + p) (omega (arith, mul-le-mul_right size h, suc-mul u size))
      go p l (no h) =
          let m : suc w ≤ u = omega arith in
          placed-after room (slot_start size w) new inside (slot_start size u + p) (omega (arith, mul-le-mul_right size m, suc-mul w size))

  -- the words that stood there, stored again, put the room back
  pub put_back : stored_in size (stored_in size room w new) w (record_in size room w) ≡ room
  unfolding record_in
  put_back =
      ext_get_or 0 (stored_in size (stored_in size room w new) w words) room (length-placed (stored_in size room w new) a words again ∙ length_stored)
      (λ i b. go i (dec_lt i a) (dec_lt i (a + size)))
    where
      a : ℕ
      a = slot_start size w

      words : List ℕ
      words = take size (drop a room)

      long : length words ≡ size
      long = length-take-le size (drop a room) (omega (arith, slot_within size pos within, length-drop a room))

      again : a + length words ≤ length (stored_in size room w new)
      again = omega (arith, long, inside, length_stored)

      go : (i : ℕ) → Dec (i < a) → Dec (i < a + size) → get_or (placed (stored_in size room w new) a words) i 0 ≡ get_or room i 0
      go i (yes h) q = placed-before (stored_in size room w new) a words again i h ∙ placed-before room a new inside i h
      go i (no h) (yes l) =
          let e : a + (i - a) ≡ i = omega arith in
          let within : i - a < size = omega arith in
          subst (λ (k : ℕ). get_or (placed (stored_in size room w new) a words) k 0 ≡ get_or room k 0) e
          (placed_in (stored_in size room w new) a words again (i - a) (omega (arith, long)) ∙ (get_or-take size (drop a room) (i - a) 0 within ∙ get_or-drop a room (i - a) 0))
      go i (no h) (no l) =
          placed-after (stored_in size room w new) a words again i (omega (arith, long)) ∙ placed-after room a new inside i (omega (arith, fits))
