-- Document 01, "The record": the record room as a ring of K slots, and what each function over it gives.
-- Assumes nothing.
use Rattle.std.specs.Prelude.{◌≡◌, Bool, [], ◌∷◌, ℕ, zero, suc, ◌+◌, ◌-◌, ◌*◌, ◌/◌, min, leb, ltb}
use Rattle.reckon.specs.Tests.{pick, every}

-- "The record room holds K records, its length divided by that size, rounded down"
abbrev pub slots_in : ℕ → ℕ → ℕ
slots_in size numbers = numbers / size

-- slot w begins after w records
abbrev pub slot_start : ℕ → ℕ → ℕ
slot_start size w = w * size

-- "the slot after the newest, slot 0 after the last"
unfoldable pub slot_after : ℕ → ℕ → ℕ
slot_after K w = pick (ltb (suc w) K) (suc w) 0

-- "newest moves back one slot"
unfoldable pub slot_before : ℕ → ℕ → ℕ
slot_before K zero = K - 1
slot_before K (suc w) = w

-- the slot j places before w: the j-th record before the newest lies there
unfoldable pub slot_ago : ℕ → ℕ → ℕ → ℕ
slot_ago K w zero = w
slot_ago K w (suc j) = slot_ago K (slot_before K w) j

-- "kept rises by one up to K"
abbrev pub kept_after : ℕ → ℕ → ℕ
kept_after K kept = min K (kept + 1)

-- "kept (0 to K), newest slot (0 to K − 1)", and K is not 0
unfoldable pub ring_fine : ℕ → ℕ → ℕ → Bool
ring_fine K kept newest = every (ltb 0 K ∷ leb kept K ∷ ltb newest K ∷ [])

-- ---- what the public functions give

abbrev pub SlotsIn : ℕ → ℕ → ℕ → Type 0
SlotsIn size numbers r = r ≡ slots_in size numbers

abbrev pub SlotStart : ℕ → ℕ → ℕ → Type 0
SlotStart size slot r = r ≡ slot_start size slot

abbrev pub SlotAfter : ℕ → ℕ → ℕ → Type 0
SlotAfter K newest r = r ≡ slot_after K newest

abbrev pub SlotBefore : ℕ → ℕ → ℕ → Type 0
SlotBefore K newest r = r ≡ slot_before K newest

abbrev pub KeptAfter : ℕ → ℕ → ℕ → Type 0
KeptAfter K kept r = r ≡ kept_after K kept

abbrev pub RingJudged : ℕ → ℕ → ℕ → Bool → Type 0
RingJudged K kept newest r = r ≡ ring_fine K kept newest
