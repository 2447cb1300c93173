-- Document 01, "The record": a list of numbers as a room of slots. What is over after the last whole slot belongs to none.
-- Assumes nothing.
use Rattle.std.specs.Prelude.{List, ℕ, take, drop}
use Rattle.reckon.specs.Lists.{placed}
use Rattle.trials.specs.Ring.{slot_start}

-- the record in slot w
unfoldable pub record_in : ℕ → List ℕ → ℕ → List ℕ
record_in size room w = take size (drop (slot_start size w) room)

-- the room with a record stored in slot w: "Other slots stay", and "the rest of it is not touched"
abbrev pub stored_in : ℕ → List ℕ → ℕ → List ℕ → List ℕ
stored_in size room w new = placed room (slot_start size w) new
