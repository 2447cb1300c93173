-- A counter that meets the laws, so that they are no empty promise, and document 01's case of K = 1 on it, computed.
-- Assumes nothing.
use mathlib.Core.Path.{◌≡◌, refl}
use mathlib.Core.Bool.{Bool, true, false}
use mathlib.Core.List.{List, [], ◌∷◌}
use Prim.Native.Nat.{ℕ, ◌+◌}
use native.Mathlib.Omega.{arith}
use lib.ListN.{length, get_or}
use Rattle.reckon.specs.Tests.{pick, every}
use Rattle.reckon.specs.Lists.{placed}
use Rattle.trials.specs.Ring.{slots_in, slot_after, slot_before, ring_fine}
use Rattle.trials.specs.Room.{record_in, stored_in}
use Rattle.trials.specs.Inner.Series.{refused, done, and_then, Engine, State, step, take_back, Call, stepping, taking_back, series, start, Fresh, Stands}
use Rattle.trials.specs.Inner.Owes.{Laws}
use Rattle.trials.proofs.RoomLaws.{slots_stored, read_stored, read_other}
use Rattle.trials.proofs.StepLaws.{not_done}
use Rattle.trials.proofs.Standing.{never_made}

-- each step adds its own number; its record is the total before it
abbrev counter : Engine
counter = record {
  Inputs = ℕ;
  Seen = ℕ;
  Record = List ℕ;
  Room = List ℕ;
  slots = λ room. slots_in 1 (length room);
  read = record_in 1;
  store = stored_in 1;
  make = λ b i v. pick b (done (v + i, v ∷ [])) (refused 6);
  look = λ b v. pick b 0 6;
  unmake = λ r v. done (get_or r 0 0);
}

record Counted (b : Bool) (i v : ℕ) (made : ℕ × List ℕ) : Type 0 where
  ok : b ≡ true
  is_it : made ≡ (v + i, v ∷ [])

counted : (b : Bool) (i v : ℕ) (made : ℕ × List ℕ) → counter.make b i v ≡ done made → Counted b i v made
unfolding pick
counted true i v made e = record { ok = refl; is_it = cc }
counted false i v made e = absurd (not_done e)

counter_laws : Laws counter
unfolding pick
counter_laws = record {
  Fits = λ r. length r ≡ 1;
  slots_stored = slots_stored 1 (omega arith);
  read_stored = read_stored 1 (omega arith);
  read_other = λ room w u r fits h k d. read_other 1 (omega arith) room w r fits h u d;
  make_fine = λ {b} {i} {v} {made} e. (counted b i v made e).ok;
  made_fits = λ {i} {v} {made} e. rw (counted true i v made e).is_it;
  look_before = λ e. refl;
  look_after = λ e. refl;
  unmake_made = λ {i} {v} {made} e. rw (counted true i v made e).is_it;
}

-- a fresh run whose room has one slot
one_slot : State counter
one_slot = record { seen = 5; room = 9 ∷ []; kept = 0; newest = 0 }

fresh : Fresh counter one_slot
unfolding one_slot
fresh = record { kept_none = refl; newest_last = refl }

-- so demand 3 holds of the counter
counter_stands : (cs : List (Call counter)) → Stands counter one_slot (series counter cs (start counter one_slot))
counter_stands = never_made counter counter_laws one_slot fresh

-- "K = 1: step, step, take-back, take-back: the last gives 10"
last-gives_10 : take_back counter (series counter (stepping 7 ∷ stepping 3 ∷ taking_back ∷ []) (start counter one_slot)).at ≡ refused 10
unfolding one_slot series step take_back and_then pick every placed record_in slot_after slot_before ring_fine
last-gives_10 = refl

-- and the first step still stands
first_stands : (series counter (stepping 7 ∷ stepping 3 ∷ taking_back ∷ taking_back ∷ []) (start counter one_slot)).at.seen ≡ 12
unfolding one_slot series step take_back and_then pick every placed record_in slot_after slot_before ring_fine
first_stands = refl

-- with two slots, both are taken back
both_back :
    (series counter (stepping 7 ∷ stepping 3 ∷ taking_back ∷ taking_back ∷ [])
    (start counter (record { seen = 5; room = 9 ∷ 9 ∷ []; kept = 0; newest = 1 }))).at.seen ≡ 5
unfolding series step take_back and_then pick every placed record_in slot_after slot_before ring_fine
both_back = refl

-- 7 stands; 3 and 2 are tried after it and taken back: 12 is seen again
tried_and_back :
    (series counter (stepping 7 ∷ stepping 3 ∷ stepping 2 ∷ taking_back ∷ taking_back ∷ [])
    (start counter (record { seen = 5; room = 9 ∷ 9 ∷ []; kept = 0; newest = 1 }))).at.seen ≡ 12
unfolding series step take_back and_then pick every placed record_in slot_after slot_before ring_fine
tried_and_back = refl
