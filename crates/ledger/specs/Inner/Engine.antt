-- The step and the take-back as an engine of `trials`: what a rule of steps brings, and what it owes.
-- Assumes nothing.
use Rattle.std.specs.Prelude.{◌≡◌, Bool, false, List, [], ◌++◌, ℕ, zero, suc, ◌+◌, ◌≤◌, ◌<◌, T, get_or}
use Rattle.reckon.specs.Tests.{pick, Row, refusal}
use Rattle.reckon.specs.Inner.Rows.{numbered}
use Rattle.reckon.specs.Ranges.{most_length}
use Rattle.trials.specs.Room.{record_in, stored_in}
use Rattle.trials.specs.Inner.Series.{Outcome, refused, done, Engine, State}
use Rattle.grid.specs.Squares.{squares}
use Rattle.ledger.specs.Runs.{Plan, World, world, Seen, seen_of}
use Rattle.ledger.specs.Flows.{shut, gone}
use Rattle.ledger.specs.Record.{record_size, room_slots}
use Rattle.ledger.specs.After.{Moves, late_refusals, step_record, world_after}
use Rattle.ledger.specs.TakeBack.{restorable, world_before, early_refusals}

-- what is seen, with no record room: nothing that a step moves or a take-back restores of it depends on one
abbrev pub bare : Seen → World
bare v =
    world v.depths v.lasts [] (record { clock = v.clock; length = v.length; outflow = v.outflow; kept = 0; newest = 0; soaked = v.soaked })

-- A rule of steps: its checks 1 to 6, where the test says whether K, kept and newest are in range, and what a step moves.
pub record StepRule (Given : Type 0) : Type 1 where
  pub checks : Bool → Given → Seen → List Row
  pub moves : Given → Seen → Moves

-- a refusal's number, 0 for none, as an outcome
unfoldable pub outcome : {A : Type 0} → ℕ → A → Outcome A
outcome zero a = done a
outcome (suc n) a = refused (suc n)

module _ (p : Plan) {Given : Type 0} (rule : StepRule Given) where
  abbrev pub made_number : Bool → Given → Seen → ℕ
  made_number ring g v = refusal (rule.checks ring g v ++ late_refusals p (rule.moves g v) (bare v))

  abbrev pub engine : Engine
  engine =
      record {
        Inputs = Given;
        Seen = Seen;
        Record = List ℕ;
        Room = List ℕ;
        slots = room_slots p;
        read = record_in (record_size p);
        store = stored_in (record_size p);
        make =
            λ ring g v.
            outcome (made_number ring g v) (seen_of (world_after p (rule.moves g v) (bare v)), step_record p (rule.moves g v) (bare v));
        look = λ ring v. refusal (early_refusals p ring v);
        unmake = λ rec v. pick (restorable p (bare v) rec) (done (seen_of (world_before p (bare v) rec))) (refused 11);
      }

  -- a world as a state of the engine
  abbrev pub state_of : World → State engine
  state_of w = record { seen = seen_of w; room = w.records; kept = w.run.kept; newest = w.run.newest }

  -- What a rule owes, so that a take-back undoes its steps: its checks pass only where the take-back's look does; a step lasts and
  -- leaves a length within the limits; no square sends and soaks more than it holds.
  pub record Owed : Type 0 where
    pub looks : (ring : Bool) (g : Given) (v : Seen) → refusal (rule.checks ring g v) ≡ 0 → refusal (early_refusals p ring v) ≡ 0
    pub named : (ring : Bool) (g : Given) (v : Seen) → T (numbered (rule.checks ring g v))
    pub lasts_from : (ring : Bool) (g : Given) (v : Seen) → refusal (rule.checks ring g v) ≡ 0 → 1 ≤ (rule.moves g v).duration
    pub lasts_to : (ring : Bool) (g : Given) (v : Seen) → refusal (rule.checks ring g v) ≡ 0 → (rule.moves g v).duration ≤ most_length
    pub length_from : (ring : Bool) (g : Given) (v : Seen) → refusal (rule.checks ring g v) ≡ 0 → 1 ≤ (rule.moves g v).length
    pub length_to : (ring : Bool) (g : Given) (v : Seen) → refusal (rule.checks ring g v) ≡ 0 → (rule.moves g v).length ≤ most_length
    pub covered : (ring : Bool) (g : Given) (v : Seen) → refusal (rule.checks ring g v) ≡ 0 →
        (i : ℕ) → i < squares p.shape → shut p i ≡ false → gone (rule.moves g v).leaves i + (rule.moves g v).soaked i ≤ get_or v.depths i 0
