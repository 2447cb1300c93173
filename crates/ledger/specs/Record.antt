-- Document 01, "The record": its words, by name.
-- Assumes nothing.
use Rattle.std.specs.Prelude.{◌≡◌, Bool, List, [], ◌∷◌, ℕ, ◌+◌, ◌*◌, length, get_or, replicate}
use Rattle.reckon.specs.Tests.{pick}
use Rattle.reckon.specs.Lists.{joined, placed}
use Rattle.trials.specs.Ring.{slots_in, ring_fine}
use Rattle.trials.specs.Room.{record_in}
use Rattle.grid.specs.declared.squares.Shape.{Shape}
use Rattle.grid.specs.Squares.{north, east, south, west, squares, ShapeInRange}
use Rattle.ledger.specs.Runs.{Plan, World, plan}
use Rattle.ledger.specs.Flows.{Leaves, shut, gone, sent, came, off_square}

-- "One record is 2 + 6·squares numbers", and "a seventh number a square" (document 02, #106): the words before the squares, and those
-- of a square
abbrev pub head_words : ℕ
head_words = 2

abbrev pub square_words : ℕ
square_words = 7

-- after the four sides: "P before, amount added", and "the amount soaked"
abbrev pub last_word : ℕ
last_word = 4

abbrev pub added_word : ℕ
added_word = 5

abbrev pub soaked_word : ℕ
soaked_word = 6

abbrev pub record_size : Plan → ℕ
record_size p = head_words + square_words * squares p.shape

-- ---- a record read

-- "length held before the step, how long the step lasted"
abbrev pub held_in : List ℕ → ℕ
held_in rec = get_or rec 0 0

abbrev pub lasted_in : List ℕ → ℕ
lasted_in rec = get_or rec 1 0

-- "then for each square north, east, south, west, P before, amount added", and last the amount soaked
abbrev pub word_place : ℕ → ℕ → ℕ
word_place i word = head_words + (square_words * i + word)

unfoldable pub leaves_in : List ℕ → Leaves
leaves_in rec i side = get_or rec (word_place i side) 0

unfoldable pub last_in : List ℕ → ℕ → ℕ
last_in rec i = get_or rec (word_place i last_word) 0

unfoldable pub added_in : List ℕ → ℕ → ℕ
added_in rec i = get_or rec (word_place i added_word) 0

unfoldable pub soaked_in : List ℕ → ℕ → ℕ
soaked_in rec i = get_or rec (word_place i soaked_word) 0

-- ---- a record written

-- "A closed square gets" seven "zeros"
unfoldable pub square_record : Plan → Leaves → (ℕ → ℕ) → (ℕ → ℕ) → (ℕ → ℕ) → ℕ → List ℕ
square_record p out last added soaked i =
    pick (shut p i) (replicate square_words 0) (out i north ∷ out i east ∷ out i south ∷ out i west ∷ last i ∷ added i ∷ soaked i ∷ [])

unfoldable pub record_of : Plan → ℕ → ℕ → Leaves → (ℕ → ℕ) → (ℕ → ℕ) → (ℕ → ℕ) → List ℕ
record_of p held lasted out last added soaked = held ∷ lasted ∷ joined (squares p.shape) (square_record p out last added soaked)

-- ---- the record room

-- "The record room holds K records"
unfoldable pub room_slots : Plan → List ℕ → ℕ
room_slots p records = slots_in (record_size p) (length records)

-- whether K, kept and newest of a world are in range
abbrev pub ring_of : Plan → World → Bool
ring_of p w = ring_fine (room_slots p w.records) w.run.kept w.run.newest

-- the newest record
unfoldable pub newest_record : Plan → World → List ℕ
newest_record p w = record_in (record_size p) w.records w.run.newest

-- ---- what is asked, and what the public functions give

-- a record of a plan, each of its size
pub record Recorded (p : Plan) (rec : List ℕ) : Type 0 where
  pub fine : ShapeInRange p.shape
  pub marks_long : length p.marks ≡ squares p.shape
  pub record_long : length rec ≡ record_size p

abbrev pub SizeOf : Shape → ℕ → Type 0
SizeOf s r = r ≡ record_size (plan s [])

abbrev pub HeldBefore : List ℕ → ℕ → Type 0
HeldBefore rec r = r ≡ held_in rec

abbrev pub Lasted : List ℕ → ℕ → Type 0
Lasted rec r = r ≡ lasted_in rec

abbrev pub Leaving : List ℕ → ℕ → ℕ → ℕ → Type 0
Leaving rec i side r = r ≡ leaves_in rec i side

abbrev pub LastBefore : List ℕ → ℕ → ℕ → Type 0
LastBefore rec i r = r ≡ last_in rec i

abbrev pub AddedBy : List ℕ → ℕ → ℕ → Type 0
AddedBy rec i r = r ≡ added_in rec i

abbrev pub SoakedBy : List ℕ → ℕ → ℕ → Type 0
SoakedBy rec i r = r ≡ soaked_in rec i

abbrev pub GoneFrom : List ℕ → ℕ → ℕ → Type 0
GoneFrom rec i r = r ≡ gone (leaves_in rec) i

abbrev pub SentTo : Plan → List ℕ → ℕ → ℕ → ℕ → Type 0
SentTo p rec i side r = r ≡ sent p (leaves_in rec) i side

abbrev pub CameTo : Plan → List ℕ → ℕ → ℕ → Type 0
CameTo p rec i r = r ≡ came p (leaves_in rec) i

abbrev pub OffFrom : Plan → List ℕ → ℕ → ℕ → Type 0
OffFrom p rec i r = r ≡ off_square p (leaves_in rec) i

-- a record before and after its head or a square is written
abbrev pub HeadPut : List ℕ → ℕ → ℕ → List ℕ → Type 0
HeadPut old held lasted new = new ≡ placed old 0 (held ∷ lasted ∷ [])

abbrev pub SquarePut : List ℕ → ℕ → List ℕ → ℕ → ℕ → ℕ → List ℕ → Type 0
SquarePut old i leaves last added soaked new =
    new ≡
    placed old (word_place i north)
    (get_or leaves north 0 ∷ get_or leaves east 0 ∷ get_or leaves south 0 ∷ get_or leaves west 0 ∷ last ∷ added ∷ soaked ∷ [])
