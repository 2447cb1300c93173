-- `flood::step::next_place` meets its contract: the slot after the newest lies in the room.
-- Assumes nothing.
use mathlib.Core.Path.{◌≡◌}
use mathlib.Core.List.{[]}
use Prim.Native.Nat.{ℕ, ◌+◌, ◌≤◌}
use native.Mathlib.Omega.{arith}
use Rattle.trials.specs.Ring.{slots_in, slot_start, slot_after}
use Rattle.trials.proofs.RingLaws.{slot_within, after_below}
use Rattle.ledger.specs.Runs.{plan}
use Rattle.ledger.specs.Record.{record_size}
use Rattle.flood.proofs.step.next_place.Goals as goal
use Rattle.flood.proofs.step.next_place.Goals.{After-slot_after, After-slots_in-slots, Start}

abbrev size : Start → ℕ
size s = record_size (plan s.args.shape [])

abbrev slots : Start → ℕ
slots s = slots_in (size s) s.args.numbers

-- by the numbers that the calls give
place_is :
    (newest numbers : ℕ) {size k slots slot : ℕ} → size ≡ k → slots ≡ slots_in size numbers → slot ≡ slot_after slots newest →
    slot_start size slot ≡ slot_start k (slot_after (slots_in k numbers) newest)
place_is newest numbers e s q = rw (q, s, e)

at_place :
    (c : After-slot_after) → slot_start c.record_size-size.result c.slot_after.result ≡ slot_start (size (goal.at.After-slot_after c).Start) (slot_after (slots (goal.at.After-slot_after c).Start) c.args.newest)
at_place c =
    place_is c.args.newest c.args.numbers c.record_size-size.ensures c.slots_in-slots.ensures c.slot_after.ensures

fits : (s : Start) → slot_start (size s) (slot_after (slots s) s.args.newest) + size s ≤ s.args.numbers
fits s = slot_within (size s) (omega arith) (after_below (slots s) s.args.newest (omega (arith, s.requires.1)))

pub slot_start-requires : goal.slot_start-requires
slot_start-requires c = omega (arith, at_place c, fits (goal.at.slot_start-requires c).Start, c.ranges.newest.fits)
