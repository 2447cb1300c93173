-- The letter's demand 3: "a trial taken back was never made", in the flood's words.
-- Assumes nothing.
use Rattle.std.specs.Prelude.{◌≡◌, false, List, [], ◌∷◌, ◌++◌, ℕ, ◌+◌, ◌-◌, ◌≤◌, ◌<◌, max, eqb, length, get_or, replicate, drop}
use Rattle.reckon.specs.Tests.{pick, refusal}
use Rattle.reckon.specs.Ranges.{most_depth}
use Rattle.trials.specs.Ring.{slot_ago, ring_fine}
use Rattle.trials.specs.Room.{record_in}
use Rattle.grid.specs.Squares.{squares}
use Rattle.rule.specs.declared.rules.Rules.{Rules}
use Rattle.ledger.specs.Runs.{Plan, World, world, seen_of}
use Rattle.ledger.specs.Flows.{shut}
use Rattle.ledger.specs.Record.{record_size, room_slots}
use Rattle.ledger.specs.TakeBack.{back_number, taken_back, early_refusals}
use Rattle.ledger.specs.declared.runs.Run.{Run}
use Rattle.ledger.specs.declared.runs.Answer.TheVariants.{Done}
use Rattle.checks.specs.Given.{Given}
use Rattle.flood.specs.Step.{step_number, stepped}
use Rattle.checks.specs.Fresh.{Freshens}
use Rattle.flood.specs.Run.{run_to}

-- "any series of steps and take-backs .. a run to a clock counts as the steps it made": each step and run with its own heights, tables and rules
pub data Call : Type 0 where
  stepping : Given → Call
  running : Given → ℕ → Call
  taking_back : Call

-- "with one shape, one set of marks" (the plan) "and one record room" (the world's own)
module _ (p : Plan) where
  -- the world after a call, refused or not, by the calls' own definitions
  abbrev pub after_call : Call → World → World
  after_call (stepping g) w = stepped p g w
  after_call (running g end) w = (run_to p g end w).world
  after_call taking_back w = taken_back p w

  -- "the steps still standing" after a call, the newest first: a step that was made stands, a run's steps stand, the newest is taken back
  abbrev pub stand_after : Call → World → List Given → List Given
  stand_after (stepping g) w steps = pick (eqb (step_number p g w) 0) (g ∷ steps) steps
  stand_after (running g end) w steps = replicate {A = Given} (run_to p g end w).steps g ++ steps
  stand_after taking_back w steps = pick (eqb (back_number p w) 0) (drop 1 steps) steps

  -- Where a series has come to: the world, the standing steps, and the most that ever stood.
  pub record Trail : Type 0 where
    pub at : World
    pub standing : List Given
    pub peak : ℕ

  abbrev pub start : World → Trail
  start f = record { at = f; standing = []; peak = 0 }

  abbrev pub called : Call → Trail → Trail
  called c x =
      let steps = stand_after c x.at x.standing in
      record { at = after_call c x.at; standing = steps; peak = max x.peak (length steps) }

  unfoldable pub series : List Call → Trail → Trail
  series [] x = x
  series (c ∷ cs) x = series cs (called c x)

  -- "the same fresh run having made only the steps still standing, each with its own heights, tables and rules"
  unfoldable pub alone : List Given → World → World
  alone [] f = f
  alone (g ∷ gs) f = stepped p g (alone gs f)

  -- none of them is refused
  abbrev pub AllMade : List Given → World → Type 0
  AllMade [] f = Unit {0}
  AllMade (g ∷ gs) f = (step_number p g (alone gs f) ≡ 0) × AllMade gs f

  -- "A fresh run: .. kept 0, newest K − 1"
  pub record Fresh (f : World) : Type 0 where
    pub kept_none : f.run.kept ≡ 0
    pub newest_last : f.run.newest ≡ room_slots p f.records - 1

  -- What holds wherever a series from the fresh run f has come to.
  pub record NeverMade (f : World) (x : Trail) : Type 0 where
    pub all_made : AllMade x.standing f
    -- "Then depths, the total last to leave each square, clock, step length and outflow are those of the same fresh run .."
    pub same_depths : x.at.depths ≡ (alone x.standing f).depths
    pub same_lasts : x.at.lasts ≡ (alone x.standing f).lasts
    pub same_clock : x.at.run.clock ≡ (alone x.standing f).run.clock
    pub same_length : x.at.run.length ≡ (alone x.standing f).run.length
    pub same_outflow : x.at.run.outflow ≡ (alone x.standing f).run.outflow
    -- and the total soaked: "demand 3 names the total" (document 02, #106)
    pub same_soaked : x.at.run.soaked ≡ (alone x.standing f).run.soaked
    -- whatever step comes next is made or refused alike
    pub same_next : (g : Given) → step_number p g x.at ≡ step_number p g (alone x.standing f)
    -- "The records still kept equal those of the fresh run", each in its slot
    pub same_newest : x.at.run.newest ≡ (alone x.standing f).run.newest
    pub same_records : (j : ℕ) → j < x.at.run.kept →
        let slot = slot_ago (room_slots p f.records) x.at.run.newest j in
        record_in (record_size p) x.at.records slot ≡ record_in (record_size p) (alone x.standing f).records slot
    -- the fresh run keeps as many or more: "overwritten records do not come back"
    pub kept_low : x.at.run.kept ≤ (alone x.standing f).run.kept
    -- "Each step is kept until the record room needs its place": with K places, the oldest peak - K had to go, and no other
    pub kept_is : x.at.run.kept + (x.peak - room_slots p f.records) ≡ length x.standing
    -- "a take-back fails for lack of records only when no kept step is left", and for nothing else
    pub back_made : 0 < x.at.run.kept → back_number p x.at ≡ 0
    pub back_fails : (back_number p x.at ≡ 0 → ⊥) → x.at.run.kept ≡ 0
    -- and then it gives what a take-back of the fresh run gives
    pub back_none : x.at.run.kept ≡ 0 → back_number p x.at ≡ back_number p f

  -- a take-back of a fresh run: 10 where shape, marks, depths, P and room are good, and never 11
  pub record BackOfFresh (f : World) : Type 0 where
    pub ten : refusal (early_refusals p (ring_fine (room_slots p f.records) f.run.kept f.run.newest) (seen_of f)) ≡ 0 → back_number p f ≡ 10
    pub never_eleven : back_number p f ≡ 11 → ⊥

  -- "from a fresh run": whatever `fresh` may answer, with any depths
  pub record Demand3 : Type 0 where
    pub fresh_is : (r : Rules) (depths records before lasts : List ℕ) (u : Run) → Freshens p r before records (Done u) lasts → Fresh (world depths lasts records u)
    pub never_made : (f : World) → Fresh f → (cs : List Call) → NeverMade f (series cs (start f))
    pub back_of_fresh : (f : World) → Fresh f → BackOfFresh f
    -- after `fresh` only the depths remain to be good
    pub fresh_ten : (r : Rules) (depths records before lasts : List ℕ) (u : Run) → Freshens p r before records (Done u) lasts →
        length depths ≡ squares p.shape → ((i : ℕ) → i < squares p.shape → shut p i ≡ false → get_or depths i 0 ≤ most_depth) →
        back_number p (world depths lasts records u) ≡ 10
