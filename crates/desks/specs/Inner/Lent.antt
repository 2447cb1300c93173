-- What a line over the sheet on the desk asks of what it is lent, and what its parts put.
-- Assumes nothing.
use Rattle.std.specs.Prelude.{◌≡◌, List, ℕ, ◌≤◌, length}
use Rattle.grid.specs.Squares.{squares, ShapeInRange}
use Rattle.trials.specs.Ring.{slots_in}
use Rattle.ledger.specs.Runs.{Plan}
use Rattle.ledger.specs.Record.{room_slots}
use Rattle.checks.specs.declared.bounds.Bounds.{Bounds}
use Rattle.checks.specs.declared.bounds.Bounds.TheVariants.{Bounded, NotBounded, Refused}
use Rattle.text.specs.Writing.{Wrote}
use Rattle.hatches.specs.Log.{Evening, most_hatches}
use Rattle.desks.specs.State.{desk_out, kept_slots, desk_with}
use Rattle.desks.specs.Lines.{Told, ending_text, Puts}
use Rattle.trying.specs.declared.given.Account.{Account}
use Rattle.hatches.specs.declared.log.Log.{Log}
use Rattle.desks.specs.declared.state.Desk.{Desk}
use Rattle.desks.specs.declared.state.Series.{Series}

-- a plan, the water on it and a room for the answer
pub record Shows (p : Plan) (depths out : List ℕ) : Type 0 where
  pub fine : ShapeInRange p.shape
  pub marks_long : length p.marks ≡ squares p.shape
  pub depths_long : length depths ≡ squares p.shape
  pub out_long : length out ≡ desk_out

-- last leaving, records and rates too: as many slots as are kept
pub record Lends (p : Plan) (depths lasts records began out : List ℕ) : Type 0 where
  pub shows : Shows p depths out
  pub lasts_long : length lasts ≡ squares p.shape
  pub slots_are : room_slots p records ≡ kept_slots p.shape
  pub rates_are : kept_slots p.shape ≤ slots_in most_hatches (length began)

-- ---- what is put

-- the bytes that always suffice for a frame, and for the end of an answer
abbrev pub most_state : ℕ
most_state = 46_000

abbrev pub most_ending : ℕ
most_ending = 50

pub record StatePut (t old new : List ℕ) (r : ℕ) : Type 0 where
  pub wrote : Wrote t 0 old new r
  pub short : length t ≤ most_state

pub record EndingPut (number line at : ℕ) (old new : List ℕ) (r : ℕ) : Type 0 where
  pub wrote : Wrote (ending_text number line) at old new r
  pub short : length (ending_text number line) ≤ most_ending

-- the number of the steps' bounds, 0 for none
unfoldable pub refused_in : Bounds → ℕ
refused_in (Refused n) = n
refused_in NotBounded = 0
refused_in (Bounded b) = 0

-- ---- what a line's own part gives

-- the desk with another log, account and steps to be made, and the answer
pub record DeskTold (d : Desk) (log : Log) (a : Account) (s : Series) (t old new : List ℕ) (r : Desk) : Type 0 where
  pub desk_is : r ≡ desk_with d log a s (length t)
  pub puts : Puts t old new

-- the desk after a call, what is lent with the log that the desk tells, and the answer
pub record Answers (t : Told) (d r : Desk) (after : Evening) (old new : List ℕ) : Type 0 where
  pub desk_is : r ≡ desk_with d t.evening.log t.account t.series (length t.text)
  pub evening_is : after ≡ t.evening
  pub puts : Puts t.text old new
