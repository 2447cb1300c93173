-- A step in its parts: what is decided before the squares are worked, its record filled in its slot of the record room, and the step settled there.
-- Assumes nothing.
use Rattle.std.specs.Prelude.{◌≡◌, true, List, ℕ, ◌≤◌, length, get_or}
use Rattle.reckon.specs.Ranges.{most_length}
use Rattle.trials.specs.Ring.{slot_after}
use Rattle.trials.specs.Room.{stored_in}
use Rattle.grid.specs.Squares.{squares}
use Rattle.grid.specs.declared.squares.Shape.{Shape}
use Rattle.grid.specs.declared.walks.Walk.{Walk}
use Rattle.ledger.specs.Runs.{Plan, World, world}
use Rattle.ledger.specs.Record.{record_size, room_slots, record_of}
use Rattle.settling.specs.Inner.Settle.{Settles, settle_number, settled, surely_settles}
use Rattle.checks.specs.Given.{Ground}
use Rattle.checks.specs.Inner.Ready.{WaterInRange}
use Rattle.moves.specs.Moves.{leaves_for, soaked_for}
use Rattle.moves.specs.Inner.Fill.{worked_rows, sender_rows, LeftKept}
use Rattle.flood.specs.declared.step.Decided.{Decided}

-- the working rooms of a step: a number a square, a number a row twice, a number a square
pub record RoomsLent (s : Shape) (left worked senders room : List ℕ) : Type 0 where
  pub left_long : length left ≡ squares s
  pub worked_long : length worked ≡ s.rows
  pub senders_long : length senders ≡ s.rows
  pub room_long : length room ≡ squares s

-- the record of a step that lasts so long and adds so much to each square
abbrev pub filled_record : Plan → Ground → World → List ℕ → ℕ → List ℕ
filled_record p o w added ms =
    record_of p w.run.length ms (leaves_for p o w.depths w.lasts ms) (λ i. get_or w.lasts i 0) (λ i. get_or added i 0)
    (soaked_for p o w.depths w.lasts w.run.clock ms)

-- the record room with a record in the slot after the newest
abbrev pub next_stored : Plan → World → List ℕ → List ℕ
next_stored p w rec = stored_in (record_size p) w.records (slot_after (room_slots p w.records) w.run.newest) rec

-- it stands in the slot after the newest, all else of the room is as it was, and the walk tells what it worked
pub record SlotFilled (walk : Walk) (p : Plan) (o : Ground) (w : World) (added : List ℕ) (ms : ℕ) (records left worked senders : List ℕ) : Type 0 where
  pub stored : records ≡ next_stored p w (filled_record p o w added ms)
  pub worked_are : worked ≡ worked_rows walk p.shape w.depths w.lasts added
  pub senders_are : senders ≡ sender_rows p o w.depths w.lasts ms
  pub left-kept : LeftKept walk p o w.depths w.lasts added ms left

-- what is asked before the squares are worked: all is in range, the record can be settled, and where that is said to be sure it is
pub record Decides (p : Plan) (o : Ground) (w : World) (room : List ℕ) (d : Decided) : Type 0 where
  pub flows : WaterInRange p o w.depths w.lasts
  pub length_to : w.run.length ≤ most_length
  pub duration_to : d.duration ≤ most_length
  pub settles : Settles p (filled_record p o w room d.duration) d.length w
  pub sure_is : d.sure ≡ true → surely_settles w.run w.depths room ≡ true

-- the refusal's number, 0 for none; the world after a step that is made, or that before it with the record in its slot
pub record SlotSettled (p : Plan) (rec : List ℕ) (new_length : ℕ) (w : World) (refused : ℕ) (after : World) : Type 0 where
  pub number : refused ≡ settle_number p rec new_length w
  pub made : refused ≡ 0 → after ≡ settled p rec new_length w
  pub not_made : (refused ≡ 0 → ⊥) → after ≡ world w.depths w.lasts (next_stored p w rec) w.run
