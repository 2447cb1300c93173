-- What the functions that work a step's length and its record ask and give.
-- Assumes nothing.
use Rattle.std.specs.Prelude.{◌≡◌, Bool, true, false, ◌&&◌, not, List, [], ℕ, ◌+◌, ◌≤◌, ◌<◌, eqb, length, get_or, set}
use Rattle.reckon.specs.Tests.{pick}
use Rattle.reckon.specs.Lists.{joined, tabulate}
use Rattle.reckon.specs.Ranges.{most_length, last_clock}
use Rattle.grid.specs.declared.squares.Shape.{Shape}
use Rattle.grid.specs.declared.walks.Walk.{Walk}
use Rattle.grid.specs.declared.walks.Walk.TheVariants.{All, Wet}
use Rattle.grid.specs.Squares.{north, squares, ShapeInRange}
use Rattle.grid.specs.Masks.{bits, bit_at, mask_from, row_mask}
use Rattle.grid.specs.Walks.{bit_of}
use Rattle.rule.specs.Weighing.{weighed}
use Rattle.rule.specs.Length.{least_from, length_at}
use Rattle.rule.specs.declared.rules.Rules.{Rules}
use Rattle.ledger.specs.Runs.{Plan}
use Rattle.ledger.specs.Flows.{shut, gone}
use Rattle.ledger.specs.Record.{record_of, record_size, word_place, SquarePut}
use Rattle.ledger.specs.Inner.Walks.{RecordedTo, sends}
use Rattle.checks.specs.Given.{Ground, ground}
use Rattle.moves.specs.Drops.{drops_of}
use Rattle.moves.specs.Moves.{square_candidates, candidates, leaves_for, soaked_for}
use Rattle.checks.specs.Inner.Ready.{WaterInRange}

-- ---- the length

-- what the length goes by of the ground: no soak rates
abbrev pub firm : Rules → List ℕ → List ℕ → Ground
firm r b k = ground r b k []

-- the least of the longest step and the candidates of the first n squares
unfoldable pub least_below : Plan → Ground → List ℕ → ℕ → ℕ
least_below p o depths n = least_from o.rules.longest (joined n (square_candidates p o depths))

-- the length that a step at this clock holds, the run having held another
abbrev pub LengthWorked : Plan → Ground → List ℕ → ℕ → ℕ → ℕ → Type 0
LengthWorked p o depths clock held r = r ≡ length_at o.rules clock held (candidates p o depths)

-- ---- the record

-- the ground and the water are lent whole and in range, and so are the added amounts, the step's end and a record of its size
pub record Fills (p : Plan) (o : Ground) (depths lasts added : List ℕ) (start ms : ℕ) (rec : List ℕ) : Type 0 where
  pub flows : WaterInRange p o depths lasts
  pub added_long : length added ≡ squares p.shape
  pub duration-for : ms ≤ most_length
  pub end_to : start + ms ≤ last_clock
  pub record_long : length rec ≡ record_size p

-- every word of a room is 0
abbrev pub Cleared : List ℕ → Type 0
Cleared l = (i : ℕ) → get_or l i 0 ≡ 0

-- a square worked: its words of the record, what left it into a room, and whether anything did; a closed one changes neither
pub record FilledOne (p : Plan) (o : Ground) (depths lasts added : List ℕ) (start ms i : ℕ) (old new before after : List ℕ) (sent : Bool) : Type 0 where
  pub closed-kept : shut p i ≡ true → new ≡ old
  pub open_put :
      shut p i ≡ false →
      SquarePut old i
      (weighed o.rules (get_or depths i 0) (get_or lasts i 0) (get_or o.roughness i 0) ms (drops_of p o.rules o.beds depths i))
      (get_or lasts i 0) (get_or added i 0) (soaked_for p o depths lasts start ms i) new
  pub left_is : after ≡ pick (shut p i) before (set before i (gone (leaves_for p o depths lasts ms) i))
  pub sent_is : sent ≡ sends p (leaves_for p o depths lasts ms) i

-- the head and the first n squares stand, and each word after them is 0
pub record FilledTo (p : Plan) (o : Ground) (depths lasts added : List ℕ) (held start ms n : ℕ) (rec : List ℕ) : Type 0 where
  pub recorded : RecordedTo p held ms (leaves_for p o depths lasts ms) (λ i. get_or lasts i 0) (λ i. get_or added i 0) (soaked_for p o depths lasts start ms) n rec
  pub clean : (k : ℕ) → word_place n north ≤ k → get_or rec k 0 ≡ 0

-- the squares from one up to another done: a record that stood up to the one stands up to the other, whatever length it holds
abbrev pub FilledOn : Plan → Ground → List ℕ → List ℕ → List ℕ → ℕ → ℕ → ℕ → ℕ → List ℕ → List ℕ → Type 0
FilledOn p o depths lasts added start ms from to old new =
    (held : ℕ) → FilledTo p o depths lasts added held start ms from old → FilledTo p o depths lasts added held start ms to new

-- all squares, from the water before the step
abbrev pub RecordFilled : Plan → Ground → List ℕ → List ℕ → List ℕ → ℕ → ℕ → ℕ → List ℕ → Type 0
RecordFilled p o depths lasts added held start ms rec =
    rec ≡ record_of p held ms (leaves_for p o depths lasts ms) (λ i. get_or lasts i 0) (λ i. get_or added i 0) (soaked_for p o depths lasts start ms)

-- ---- which squares a walk works

module _ (depths lasts added : List ℕ) where
  -- a square that a step has something to work or to write of, if it is not closed
  unfoldable pub stirs : ℕ → Bool
  stirs i = not (eqb (get_or depths i 0) 0 && eqb (get_or lasts i 0) 0 && eqb (get_or added i 0) 0)

  -- the three lists have a square, or a row of at most 64 squares
  pub record HasSquare (i : ℕ) : Type 0 where
    pub depths_long : i < length depths
    pub lasts_long : i < length lasts
    pub added_long : i < length added

  pub record HasRow (first columns : ℕ) : Type 0 where
    pub columns_high : columns ≤ bits
    pub depths_long : first + columns ≤ length depths
    pub lasts_long : first + columns ≤ length lasts
    pub added_long : first + columns ≤ length added

-- one walk works all squares, the other those that stir
unfoldable pub works_on : Walk → List ℕ → List ℕ → List ℕ → ℕ → Bool
works_on All depths lasts added i = true
works_on Wet depths lasts added i = stirs depths lasts added i

-- the three lists have the whole grid, and a slice has a number a row
pub record HasRows (s : Shape) (depths lasts added rows : List ℕ) : Type 0 where
  pub fine : ShapeInRange s
  pub depths_long : length depths ≡ squares s
  pub lasts_long : length lasts ≡ squares s
  pub added_long : length added ≡ squares s
  pub rows_long : length rows ≡ s.rows

-- the rows of the squares that are worked
unfoldable pub worked_rows : Walk → Shape → List ℕ → List ℕ → List ℕ → List ℕ
worked_rows walk s depths lasts added = tabulate s.rows (row_mask s (works_on walk depths lasts added))

-- nothing to work or to write of a square, if it is not closed; and so where a mask of a row, or those of all rows, have no bit
module _ (p : Plan) (depths lasts added : List ℕ) where
  abbrev pub UnstirredAt : ℕ → Type 0
  UnstirredAt i = shut p i ≡ false → (get_or depths i 0 ≡ 0) × (get_or lasts i 0 ≡ 0) × (get_or added i 0 ≡ 0)

  abbrev pub UnstirredRow : ℕ → ℕ → Type 0
  UnstirredRow first mask = (column : ℕ) → column < p.shape.columns → bit_at mask column ≡ false → UnstirredAt (first + column)

  abbrev pub UnstirredBy : List ℕ → Type 0
  UnstirredBy rows = (i : ℕ) → i < squares p.shape → bit_of p.shape rows i ≡ false → UnstirredAt i

-- ---- what the walk tells

-- the rows of the squares that send
unfoldable pub sender_rows : Plan → Ground → List ℕ → List ℕ → ℕ → List ℕ
sender_rows p o depths lasts ms = tabulate p.shape.rows (row_mask p.shape (sends p (leaves_for p o depths lasts ms)))

-- a row's first columns done: in the record; what left those that a mask has, in a room that is as it was for the squares before the row; and
-- the mask of those that send
pub record FilledColumns (p : Plan) (o : Ground) (depths lasts added : List ℕ) (start ms first mask columns : ℕ) (old new before after : List ℕ) (senders : ℕ) : Type 0 where
  pub filled : FilledOn p o depths lasts added start ms first (first + columns) old new
  pub left_at :
      (column : ℕ) → column < columns → bit_at mask column ≡ true → shut p (first + column) ≡ false →
      get_or after (first + column) 0 ≡ gone (leaves_for p o depths lasts ms) (first + column)
  pub left-before : (i : ℕ) → i < first → get_or after i 0 ≡ get_or before i 0
  pub senders_are : senders ≡ mask_from (sends p (leaves_for p o depths lasts ms)) first columns

-- what left each of the first n squares that the masks of rows have and that is not closed
abbrev pub LeftTo : Plan → Ground → List ℕ → List ℕ → ℕ → List ℕ → ℕ → List ℕ → Type 0
LeftTo p o depths lasts ms rows n left =
    (i : ℕ) → i < n → shut p i ≡ false → bit_of p.shape rows i ≡ true → get_or left i 0 ≡ gone (leaves_for p o depths lasts ms) i

-- and each that a walk works
abbrev pub LeftKept : Walk → Plan → Ground → List ℕ → List ℕ → List ℕ → ℕ → List ℕ → Type 0
LeftKept walk p o depths lasts added ms left =
    (i : ℕ) → i < squares p.shape → shut p i ≡ false → works_on walk depths lasts added i ≡ true → get_or left i 0 ≡ gone (leaves_for p o depths lasts ms) i
