-- The letter's demand 3: what a series of steps and take-backs is, and what holds of it, for any engine that keeps its records in a ring.
-- Assumes nothing.
use Rattle.std.specs.Prelude.{◌≡◌, Bool, List, [], ◌∷◌, ℕ, zero, suc, ◌+◌, ◌-◌, ◌≤◌, ◌<◌, min, max, length}
use Rattle.reckon.specs.Tests.{pick}
use Rattle.trials.specs.Ring.{slot_after, slot_before, slot_ago, kept_after, ring_fine}

-- "A refusal gives one number"; else there is an answer.
pub data Outcome (A : Type 0) : Type 0 where
  refused : ℕ → Outcome A
  done : A → Outcome A

-- go on from an answer; a refusal stays as it is
unfoldable pub and_then : {A B : Type 0} → Outcome A → (A → Outcome B) → Outcome B
and_then (refused n) f = refused n
and_then (done a) f = f a

-- What makes steps, keeps a record of each in a room of slots, and takes steps back by their records.
pub record Engine : Type 1 where
  -- what each step has of its own: "Heights, tables and rules may differ from call to call"
  pub Inputs : Type 0
  -- what is compared: "depths, the total last to leave each square, clock, step length and outflow"
  pub Seen : Type 0
  pub Record : Type 0
  pub Room : Type 0
  -- K of a room; the record in a slot; the room with a record stored in a slot
  pub slots : Room → ℕ
  pub read : Room → ℕ → Record
  pub store : Room → ℕ → Record → Room
  -- a step gives what is seen after it and its record; the test says whether K, kept and newest are in range
  pub make : Bool → Inputs → Seen → Outcome (Seen × Record)
  -- the number by which a take-back is refused before it asks whether a step is kept, 0 for none; the test is the same
  pub look : Bool → Seen → ℕ
  -- what was seen before the step of a record
  pub unmake : Record → Seen → Outcome Seen

module _ (E : Engine) where
  -- The run with all that it changes: what is seen of it, the record room, kept and the newest slot.
  pub record State : Type 0 where
    pub seen : E.Seen
    pub room : E.Room
    pub kept : ℕ
    pub newest : ℕ

  -- "K = 0, or a run value out of range", as far as kept and newest go
  abbrev pub fine : State → Bool
  fine s = ring_fine (E.slots s.room) s.kept s.newest

  -- ---- one step, one take-back, a run

  -- "A step writes the slot after the newest, slot 0 after the last, and kept rises by one up to K."
  abbrev pub stepped : ℕ → State → E.Seen × E.Record → State
  stepped K s made =
      record {
        seen = made.0;
        room = E.store s.room (slot_after K s.newest) made.1;
        kept = kept_after K s.kept;
        newest = slot_after K s.newest;
      }

  -- a step: refused by the engine's number, or made and recorded
  unfoldable pub step : E.Inputs → State → Outcome State
  step i s = and_then (E.make (fine s) i s.seen) (λ made. done (stepped (E.slots s.room) s made))

  -- "kept falls by one, newest moves back one slot; the record room is not written"
  abbrev pub restored : ℕ → State → ℕ → E.Seen → State
  restored K s left before = record { seen = before; room = s.room; kept = left; newest = slot_before K s.newest }

  -- 10 with none kept, else "A take-back reads the newest record"
  abbrev pub from_record : ℕ → State → ℕ → Outcome State
  from_record K s zero = refused 10
  from_record K s (suc left) = and_then (E.unmake (E.read s.room s.newest) s.seen) (λ before. done (restored K s left before))

  -- "Tried in this order": what comes before 10, then the rest
  abbrev pub looked : ℕ → Outcome State → Outcome State
  looked zero rest = rest
  looked (suc n) rest = refused (suc n)

  -- a take-back: refused by what comes before 10, by 10, or by what the record holds, or made
  unfoldable pub take_back : State → Outcome State
  take_back s = looked (E.look (fine s) s.seen) (from_record (E.slots s.room) s s.kept)

  -- What a run gives: the state it came to, the steps it made, and the number of the step it stopped before, 0 for none.
  pub record Ran : Type 0 where
    pub state : State
    pub steps : ℕ
    pub number : ℕ

  -- "If one of its steps is refused, it gives that number with the steps made and leaves the state before that step"
  abbrev pub ran_on : Outcome State → State → ℕ → (State → Ran) → Ran
  ran_on (refused n) s made go_on = record { state = s; steps = made; number = n }
  ran_on (done t) s made go_on = go_on t

  -- after the steps made so far: steps while the test says so, at most n more
  unfoldable pub run_on : E.Inputs → (E.Seen → Bool) → ℕ → State → ℕ → Ran
  run_on i more zero s made = record { state = s; steps = made; number = 0 }
  run_on i more (suc n) s made =
      pick (more s.seen) (ran_on (step i s) s made (λ t. run_on i more n t (suc made))) (record { state = s; steps = made; number = 0 })

  -- "A run to an end makes steps while clock < end": the test is that of the clock
  abbrev pub run : E.Inputs → (E.Seen → Bool) → ℕ → State → Ran
  run i more n s = run_on i more n s 0

  -- ---- series

  -- "any series of steps and take-backs", runs among them: each with its inputs, a run with its test and the most steps it may make
  pub data Call : Type 0 where
    stepping : E.Inputs → Call
    taking_back : Call
    running : E.Inputs → (E.Seen → Bool) → ℕ → Call

  -- Where a series has come to: the state, the inputs of "the steps still standing", the newest first, and the most that ever stood.
  pub record Trail : Type 0 where
    pub at : State
    pub standing : List E.Inputs
    pub peak : ℕ

  -- "from a fresh run", before the first call
  abbrev pub start : State → Trail
  start s = record { at = s; standing = []; peak = 0 }

  -- a step that was made stands; "refused calls among them" change nothing
  abbrev pub after_step : E.Inputs → Trail → Outcome State → Trail
  after_step i x (refused n) = x
  after_step i x (done s) = record { at = s; standing = i ∷ x.standing; peak = max x.peak (length x.standing + 1) }

  -- all but the newest
  abbrev pub older : List E.Inputs → List E.Inputs
  older [] = []
  older (i ∷ is) = is

  -- "a trial taken back was never made": the newest stands no longer
  abbrev pub after_back : Trail → Outcome State → Trail
  after_back x (refused n) = x
  after_back x (done s) = record { at = s; standing = older x.standing; peak = x.peak }

  -- n steps with the same inputs
  unfoldable pub repeat : ℕ → E.Inputs → Trail → Trail
  repeat zero i x = x
  repeat (suc n) i x = repeat n i (after_step i x (step i x.at))

  -- "a run to a clock counts as the steps it made"
  abbrev pub called : Call → Trail → Trail
  called (stepping i) x = after_step i x (step i x.at)
  called taking_back x = after_back x (take_back x.at)
  called (running i more n) x = repeat (run i more n x.at).steps i x

  -- call after call
  unfoldable pub series : List Call → Trail → Trail
  series [] x = x
  series (c ∷ cs) x = series cs (called c x)

  -- "the same fresh run having made only the steps still standing": just these, the newest first, refused where one of them is
  unfoldable pub replay : List E.Inputs → State → Outcome State
  replay [] s = done s
  replay (i ∷ is) s = and_then (replay is s) (step i)

  -- ---- demand 3

  -- "A fresh run: .. kept 0, newest K − 1"
  pub record Fresh (f : State) : Type 0 where
    pub kept_none : f.kept ≡ 0
    pub newest_last : f.newest ≡ E.slots f.room - 1

  -- what an answer shows, its number if it is a refusal: all but the record room, kept and newest
  abbrev pub shown : Outcome State → Outcome E.Seen
  shown a = and_then a (λ s. done s.seen)

  -- What holds wherever a series from the fresh run f has come to.
  pub record Stands (f : State) (x : Trail) : Type 0 where
    -- the same fresh run makes the steps still standing, each with its own inputs, and none of them is refused
    pub alone : State
    pub again : replay x.standing f ≡ done alone
    -- what is seen is that run's, and so is the newest slot
    pub same_seen : x.at.seen ≡ alone.seen
    pub same_newest : x.at.newest ≡ alone.newest
    -- whatever step comes next gets the same answer in both
    pub same_next : (i : E.Inputs) → shown (step i x.at) ≡ shown (step i alone)
    -- "The records still kept equal those of the fresh run", and it keeps as many or more
    pub same_records : (j : ℕ) → j < x.at.kept →
        let slot = slot_ago (E.slots f.room) x.at.newest j in
        E.read x.at.room slot ≡ E.read alone.room slot
    pub kept-alone : alone.kept ≡ min (E.slots f.room) (length x.standing)
    pub kept_low : x.at.kept ≤ alone.kept
    -- "Each step is kept until the record room needs its place": with K places, the oldest peak - K had to go
    pub kept_is : x.at.kept + (x.peak - E.slots f.room) ≡ length x.standing
    -- "a take-back fails for lack of records only when no kept step is left", and for nothing else
    pub back_kept : 0 < x.at.kept → (s : State) × (take_back x.at ≡ done s)
    pub back_fails : (n : ℕ) → take_back x.at ≡ refused n → x.at.kept ≡ 0
    -- with none left it gives what a take-back of the fresh run gives
    pub back_none : x.at.kept ≡ 0 → take_back x.at ≡ take_back f
