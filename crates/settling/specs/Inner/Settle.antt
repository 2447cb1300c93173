-- A step whose record is worked out, settled: refused by 8, 9 or 15, or written to the world. `settled_is` joins it to the world after a step.
-- Assumes nothing.
use Rattle.std.specs.Prelude.{◌≡◌, ℕ, zero, suc, ◌+◌, ◌-◌, ◌*◌, ◌/◌, ◌%◌, ◌<◌, ◌≤◌, Bool, true, false, not, ◌||◌, leb, List, [], ◌∷◌, length, ◌==◌, bit_or, nat_le, nat_lt, slice_index, slice_index_or}
use Rattle.reckon.specs.Tests.{pick, every, Row, ◌unless◌, refusal}
use Rattle.reckon.specs.Lists.{filled, sum_below}
use Rattle.reckon.specs.Ranges.{most_depth, most_length, last_clock, most_outflow, most_soaked}
use Rattle.grid.specs.declared.squares.Shape.{Shape}
use Rattle.trials.specs.Ring.{slot_after}
use Rattle.trials.specs.Room.{record_in}
use Rattle.grid.specs.Squares.{sides, most_squares, squares, beside, ShapeInRange, OnSquare}
use Rattle.grid.specs.Marks.{closed}
use Rattle.grid.specs.Masks.{bit_at}
use Rattle.grid.specs.Walks.{bit_of, beside_set}
use Rattle.ledger.specs.Runs.{Plan, World}
use Rattle.ledger.specs.Inner.Walks.{sends}
use Rattle.ledger.specs.Inner.Worlds.{of_depths}
use Rattle.ledger.specs.Flows.{Leaves, four_sides, shut, gone, sent, off_square, off_grid, soaked_square, soaked_grid}
use Rattle.ledger.specs.Record.{record_size, lasted_in, leaves_in, added_in, soaked_in, room_slots, Recorded}
use Rattle.ledger.specs.After.{Moves, remains, new_depth, depths_fit, new_outflow, new_soaked, world_with}
use Rattle.ledger.specs.declared.runs.Run.{Run}
use Rattle.settling.specs.declared.spread.Lost.{Lost}

-- what a record says was moved, with the length that the step leaves held
abbrev pub moves_in : List ℕ → ℕ → Moves
moves_in rec new_length =
    record { leaves = leaves_in rec; added = added_in rec; soaked = soaked_in rec; duration = lasted_in rec; length = new_length }

-- rows 8, 9 and 15, by whether the new depths fit and by the new totals
abbrev pub settle_rows : Bool → ℕ → ℕ → List Row
settle_rows fit outflow soaked = 8 unless fit ∷ 9 unless leb outflow most_outflow ∷ 15 unless leb soaked most_soaked ∷ []

-- the first that applies, 0 where it is sure that none does
unfoldable pub late_number : Bool → Bool → ℕ → ℕ → ℕ
late_number sure fit outflow soaked = pick sure 0 (refusal (settle_rows fit outflow soaked))

module _ (p : Plan) (rec : List ℕ) (new_length : ℕ) (w : World) where
  unfoldable pub settle_refusals : List Row
  settle_refusals = settle_rows (depths_fit p (moves_in rec new_length) w) (new_outflow p (moves_in rec new_length) w) (new_soaked p (moves_in rec new_length) w)

  unfoldable pub settle_number : ℕ
  settle_number = refusal settle_refusals

  unfoldable pub settled : World
  settled = pick (settle_number == 0) (world_with p (moves_in rec new_length) w rec) w

-- ---- what is asked, and what the public function gives

-- What is asked: all that is lent is of its size, the run is in range, no square sends and soaks more than it holds, and none is added
-- more than one can hold.
pub record Settles (p : Plan) (rec : List ℕ) (new_length : ℕ) (w : World) : Type 0 where
  pub fine : ShapeInRange p.shape
  pub marks_long : length p.marks ≡ squares p.shape
  pub depths_long : length w.depths ≡ squares p.shape
  pub lasts_long : length w.lasts ≡ squares p.shape
  pub record_long : length rec ≡ record_size p
  pub newest_in : w.run.newest < room_slots p w.records
  pub outflow_to : w.run.outflow ≤ most_outflow
  pub soaked_to : w.run.soaked ≤ most_soaked
  pub clock_to : w.run.clock + lasted_in rec ≤ last_clock
  pub length_to : new_length ≤ most_length
  pub depths_to : (i : ℕ) → i < squares p.shape → shut p i ≡ false → slice_index w.depths i ≤ most_depth
  pub covered : (i : ℕ) → i < squares p.shape → shut p i ≡ false → gone (leaves_in rec) i + soaked_in rec i ≤ slice_index w.depths i
  pub added_to : (i : ℕ) → i < squares p.shape → shut p i ≡ false → added_in rec i ≤ most_depth

-- the refusal's number, 0 for none, and the world afterwards
pub record SettlesTo (p : Plan) (rec : List ℕ) (new_length : ℕ) (w : World) (refused : ℕ) (after : World) : Type 0 where
  pub number : refused ≡ settle_number p rec new_length w
  pub world_is : after ≡ settled p rec new_length w

-- ---- where it is sure beforehand that nothing is refused

-- the first n numbers of a list joined bit by bit, and all of them
unfoldable pub joined_to : ℕ → List ℕ → ℕ
joined_to zero list = 0
joined_to (suc n) list = bit_or (joined_to n list) (slice_index list n)

unfoldable pub joined_all : List ℕ → ℕ
joined_all list = joined_to (length list) list

-- all that the squares of a grid can hold: no more than that leaves it in a step, and no more soaks
abbrev pub most_lost : ℕ
most_lost = most_squares * most_depth

-- A new depth is at most a square's own water, that of four neighbours and what is added; and no number of a list is more than all of them joined.
unfoldable pub surely_settles : Run → List ℕ → List ℕ → Bool
surely_settles run depths room =
    every
    (nat_le run.outflow (most_outflow - most_lost)
    ∷ nat_le run.soaked (most_soaked - most_lost)
    ∷ nat_le (5 * joined_all depths + joined_all room) most_depth
    ∷ [])

abbrev pub SurelyJudged : Run → List ℕ → List ℕ → Bool → Type 0
SurelyJudged run depths room r = r ≡ surely_settles run depths room

-- the record in the slot after the newest
abbrev pub next_record : Plan → World → List ℕ
next_record p w = record_in (record_size p) w.records (slot_after (room_slots p w.records) w.run.newest)

-- ---- what the functions inside ask and give

-- the new depth that a record gives a square, and all of them
abbrev pub depth_by : Plan → List ℕ → List ℕ → ℕ → ℕ
depth_by p rec depths i = new_depth p (moves_in rec 0) (of_depths depths) i

abbrev pub depths_by : Plan → List ℕ → List ℕ → List ℕ
depths_by p rec depths = filled (squares p.shape) (shut p) (depth_by p rec depths) depths

-- a record and the depths that it starts from: no square sends and soaks more than it holds, and all is in range
pub record Spreads (p : Plan) (rec : List ℕ) (depths : List ℕ) : Type 0 where
  pub recorded : Recorded p rec
  pub depths_long : length depths ≡ squares p.shape
  pub depths_to : (i : ℕ) → i < squares p.shape → shut p i ≡ false → slice_index depths i ≤ most_depth
  pub covered : (i : ℕ) → i < squares p.shape → shut p i ≡ false → gone (leaves_in rec) i + soaked_in rec i ≤ slice_index depths i
  pub added_to : (i : ℕ) → i < squares p.shape → shut p i ≡ false → added_in rec i ≤ most_depth

-- ---- which squares a step has worked, and which sent

-- a square that a step leaves as it is, unless water comes to it: it has none, and none leaves it, soaks or is added
pub record IdleAt (rec depths : List ℕ) (i : ℕ) : Type 0 where
  pub dry : slice_index_or depths i 0 ≡ 0
  pub quiet : gone (leaves_in rec) i ≡ 0
  pub firm : soaked_in rec i ≡ 0
  pub unadded : added_in rec i ≡ 0

-- the squares not closed that the masks of rows do not have are idle, nothing has left them before, and what left the others is told
abbrev pub IdleBy : Plan → List ℕ → List ℕ → List ℕ → Type 0
IdleBy p rec depths rows = (i : ℕ) → i < squares p.shape → bit_of p.shape rows i ≡ false → shut p i ≡ false → IdleAt rec depths i

abbrev pub StillBy : Plan → List ℕ → List ℕ → Type 0
StillBy p lasts rows = (i : ℕ) → i < squares p.shape → bit_of p.shape rows i ≡ false → shut p i ≡ false → slice_index lasts i ≡ 0

abbrev pub LeftBy : Plan → List ℕ → List ℕ → List ℕ → Type 0
LeftBy p rec left rows = (i : ℕ) → i < squares p.shape → bit_of p.shape rows i ≡ true → shut p i ≡ false → slice_index left i ≡ gone (leaves_in rec) i

-- the masks of rows have a bit for each square that sent
abbrev pub SentBy : Plan → List ℕ → List ℕ → Type 0
SentBy p rec rows = (i : ℕ) → i < squares p.shape → bit_of p.shape rows i ≡ false → sends p (leaves_in rec) i ≡ false

-- what a step's walk tells: the rows of the squares that it worked and those of the squares that sent, and what left each that it worked
pub record WalkTells (p : Plan) (rec depths lasts left worked senders : List ℕ) : Type 0 where
  pub left_long : length left ≡ squares p.shape
  pub worked_long : length worked ≡ p.shape.rows
  pub senders_long : length senders ≡ p.shape.rows
  pub idle : IdleBy p rec depths worked
  pub still : StillBy p lasts worked
  pub left_is : LeftBy p rec left worked
  pub sent : SentBy p rec senders

-- the working room before a step is settled: what is added to each square not closed
pub record RoomAdded (p : Plan) (rec room : List ℕ) : Type 0 where
  pub long : length room ≡ squares p.shape
  pub added : (i : ℕ) → i < squares p.shape → shut p i ≡ false → slice_index room i ≡ added_in rec i

-- ---- spreading

-- what the squares below the n-th have sent to a square
unfoldable pub came_below : Plan → Leaves → ℕ → ℕ → ℕ
came_below p out n i = four_sides (λ side. pick (nat_lt (beside p.shape i side) n) (sent p out i side) 0)

-- what remains in a square, once it is below the n-th
unfoldable pub stays_below : Plan → List ℕ → List ℕ → ℕ → ℕ → ℕ
stays_below p rec depths n i = pick (nat_lt i n) (remains p (moves_in rec 0) (of_depths depths) i) 0

-- what the n-th square brings to a square through a side, and through all four
unfoldable pub brings : Plan → List ℕ → ℕ → ℕ → ℕ → ℕ
brings p rec n side i = pick (beside p.shape n side == i) (leaves_in rec n side) 0

abbrev pub brings_all : Plan → List ℕ → ℕ → ℕ → ℕ
brings_all p rec n i = four_sides (λ side. brings p rec n side i)

-- an amount more at each square not closed; the room keeps its length
pub record Grown (p : Plan) (amount : ℕ → ℕ) (old new : List ℕ) : Type 0 where
  pub long : length new ≡ length old
  pub grown : (i : ℕ) → i < squares p.shape → shut p i ≡ false → slice_index new i ≡ slice_index old i + amount i

-- the most that a room's number comes to: what a square holds, what is added, and what four neighbours send, twice over
abbrev pub most_in_room : ℕ
most_in_room = 10 * most_depth

-- a room with space left for so much at each square not closed
abbrev pub SpaceLeft : Plan → ℕ → List ℕ → Type 0
SpaceLeft p more room = (i : ℕ) → i < squares p.shape → shut p i ≡ false → slice_index room i + more ≤ most_in_room

-- a square not closed that sends no more than it can hold
pub record SendsFew (p : Plan) (rec : List ℕ) (i column : ℕ) : Type 0 where
  pub recorded : Recorded p rec
  pub on : OnSquare p.shape i column
  pub few : (side : ℕ) → side < sides → leaves_in rec i side ≤ most_depth

-- the first n squares spread: what they sent off the grid, what soaked there, and in the room at each square not closed what is added, what
-- they sent to it, and what remains of it if it is one of them
pub record SpreadTo (p : Plan) (rec depths : List ℕ) (n : ℕ) (lost : Lost) (room : List ℕ) : Type 0 where
  pub off_is : lost.off ≡ sum_below n (off_square p (leaves_in rec))
  pub soaked_is : lost.soaked ≡ sum_below n (soaked_square p (soaked_in rec))
  pub room_is :
      (i : ℕ) → i < squares p.shape → shut p i ≡ false → slice_index room i ≡ added_in rec i + came_below p (leaves_in rec) n i + stays_below p rec depths n i
  pub long : length room ≡ squares p.shape

-- the new depths in the room
pub record RoomDepths (p : Plan) (rec depths room : List ℕ) : Type 0 where
  pub long : length room ≡ squares p.shape
  pub are : (i : ℕ) → i < squares p.shape → shut p i ≡ false → slice_index room i ≡ depth_by p rec depths i

-- all squares spread
pub record SpreadAll (p : Plan) (rec depths : List ℕ) (lost : Lost) (room : List ℕ) : Type 0 where
  pub off_is : lost.off ≡ off_grid p (leaves_in rec)
  pub soaked_is : lost.soaked ≡ soaked_grid p (soaked_in rec)
  pub room_is : RoomDepths p rec depths room

-- ---- the squares that a step reaches: those that it worked, and those beside one that sent

unfoldable pub reached_row : List ℕ → List ℕ → ℕ → ℕ
reached_row worked senders row = bit_or (slice_index worked row) (beside_set senders row)

-- the columns of a row that a mask does not have, and those that it has
abbrev pub WhereClear : Shape → ℕ → ℕ → (ℕ → Type 0) → Type 0
WhereClear s first mask holds = (column : ℕ) → column < s.columns → bit_at mask column ≡ false → holds (first + column)

abbrev pub WhereSet : Shape → ℕ → ℕ → (ℕ → Type 0) → Type 0
WhereSet s first mask holds = (column : ℕ) → column < s.columns → bit_at mask column ≡ true → holds (first + column)

-- whether a square is reached
unfoldable pub reached_at : Shape → List ℕ → List ℕ → ℕ → Bool
reached_at s worked senders i = bit_at (reached_row worked senders (i / s.columns)) (i % s.columns)

-- a list has 0 at the squares not closed that are not reached
abbrev pub NoneBeyond : Plan → List ℕ → List ℕ → List ℕ → Type 0
NoneBeyond p worked senders list =
    (i : ℕ) → i < squares p.shape → reached_at p.shape worked senders i ≡ false → shut p i ≡ false → slice_index list i ≡ 0

-- the depths of the squares not closed that are not reached are the room's already
abbrev pub SameBeyond : Plan → List ℕ → List ℕ → List ℕ → List ℕ → Type 0
SameBeyond p worked senders depths room =
    (i : ℕ) → i < squares p.shape → reached_at p.shape worked senders i ≡ false → shut p i ≡ false → slice_index depths i ≡ slice_index room i

-- whether the room's new depth of a square is in range
unfoldable pub fits_at : List ℕ → List ℕ → ℕ → Bool
fits_at marks room i = closed marks i || nat_le (slice_index room i) most_depth

-- ---- writing

-- Written from one square up to another: an amount at each that is not skipped. All else is as it was.
pub record Written (skips : ℕ → Bool) (amount : ℕ → ℕ) (from to : ℕ) (old new : List ℕ) : Type 0 where
  pub long : length new ≡ length old
  pub written : (i : ℕ) → from ≤ i → i < to → skips i ≡ false → slice_index new i ≡ amount i
  pub kept : (i : ℕ) → (from ≤ i → i < to → skips i ≡ true) → slice_index new i ≡ slice_index old i

-- the squares that writing a row skips: those that are closed, and the columns that its mask does not have
unfoldable pub skips_in : List ℕ → ℕ → ℕ → ℕ → Bool
skips_in marks first mask i = closed marks i || not (bit_at mask (i - first))

-- the squares that writing all rows skips, by the masks of the rows
unfoldable pub skips_by : Plan → List ℕ → ℕ → Bool
skips_by p rows i = shut p i || not (bit_of p.shape rows i)
