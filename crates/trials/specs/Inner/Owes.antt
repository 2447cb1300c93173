-- What an engine owes, so that demand 3 holds of it: its room is an array of slots, and a take-back undoes a step.
-- Assumes nothing.
use Rattle.std.specs.Prelude.{◌≡◌, Bool, true, ◌≢◌, ℕ, ◌<◌}
use Rattle.trials.specs.Inner.Series.{done, Engine}

pub record Laws (E : Engine) : Type 1 where
  -- the records that fit a slot
  pub Fits : E.Record → Type 0
  -- storing one leaves K as it was; it is then read from its slot; "Other slots stay"
  pub slots_stored : (room : E.Room) (w : ℕ) (r : E.Record) → Fits r → w < E.slots room → E.slots (E.store room w r) ≡ E.slots room
  pub read_stored : (room : E.Room) (w : ℕ) (r : E.Record) → Fits r → w < E.slots room → E.read (E.store room w r) w ≡ r
  pub read_other : (room : E.Room) (w u : ℕ) (r : E.Record) → Fits r → w < E.slots room → u < E.slots room → u ≢ w →
      E.read (E.store room w r) u ≡ E.read room u
  -- no step is made where K, kept or newest is out of range
  pub make_fine : {b : Bool} {i : E.Inputs} {v : E.Seen} {made : E.Seen × E.Record} → E.make b i v ≡ done made → b ≡ true
  -- the record of a step that is made fits
  pub made_fits : {i : E.Inputs} {v : E.Seen} {made : E.Seen × E.Record} → E.make true i v ≡ done made → Fits made.1
  -- a take-back's look passes before and after a step that is made
  pub look_before : {i : E.Inputs} {v : E.Seen} {made : E.Seen × E.Record} → E.make true i v ≡ done made → E.look true v ≡ 0
  pub look_after : {i : E.Inputs} {v : E.Seen} {made : E.Seen × E.Record} → E.make true i v ≡ done made → E.look true made.0 ≡ 0
  -- the record of a step gives back what was there
  pub unmake_made : {i : E.Inputs} {v : E.Seen} {made : E.Seen × E.Record} → E.make true i v ≡ done made → E.unmake made.1 made.0 ≡ done v
