-- The letter's demand 1: a call is refused exactly when the table says, and then all is as it was; a run stops before the step refused. That
-- every call ends is what the check proves of each function; that its contract leaves one outcome is `Determined`.
-- Assumes nothing.
use Rattle.std.specs.Prelude.{◌≡◌, List, ◌++◌, ℕ, ◌≤◌, ◌<◌, length}
use Rattle.reckon.specs.Tests.{refusal}
use Rattle.rule.specs.declared.rules.Rules.{Rules}
use Rattle.ledger.specs.Runs.{Plan, World, seen_of}
use Rattle.ledger.specs.After.{late_refusals}
use Rattle.ledger.specs.TakeBack.{back_refusals, back_number, taken_back}
use Rattle.ledger.specs.Record.{ring_of}
use Rattle.checks.specs.Given.{Given}
use Rattle.moves.specs.Moves.{step_moves}
use Rattle.checks.specs.Refusals.{step_checks, run_checks}
use Rattle.checks.specs.Bounds.{bounds_refusals, bounds_number}
use Rattle.flood.specs.Step.{step_number, stepped}
use Rattle.checks.specs.Fresh.{fresh_refusals, fresh_number, fresh_lasts}
use Rattle.flood.specs.Run.{Ended, ended, gone_on, run_to, steps_on}
use Rattle.sight.specs.AllArrows.{Sights, all_refusals, all_number, SeesAll}
use Rattle.sight.specs.Arrows.{arrow_refusals, arrow_number}
use Rattle.sight.specs.WetRows.{WetRowed, wet_refusals, wet_number}
use Rattle.sight.specs.declared.wet_rows.Wet.{Wet}
use Rattle.exports.specs.Refusals.{last_check}
use Rattle.demands.specs.Table.{TableSays}
use Rattle.demands.specs.Determined.{Determined}
use Rattle.demands.specs.Loader.{LoaderRefuses}
use Rattle.demands.specs.Exported.{ExportsExactlyWhen, ExportsLeave}

-- ---- "A refusal gives one number from the table in document 01, exactly when that table says"

pub record ExactlyWhen (p : Plan) : Type 0 where
  pub step : (g : Given) (w : World) → TableSays (step_checks p g (ring_of p w) (seen_of w) ++ late_refusals p (step_moves p g (seen_of w)) w) (step_number p g w)
  pub take_back : (w : World) → TableSays (back_refusals p w) (back_number p w)
  pub fresh : (r : Rules) (lasts records : List ℕ) → TableSays (fresh_refusals p r lasts records) (fresh_number p r lasts records)
  -- a run before its first step, and `check`
  pub check : (g : Given) (end : ℕ) (w : World) → TableSays (run_checks p g end w) (refusal (run_checks p g end w))
  pub check_step : (g : Given) (w : World) → TableSays (step_checks p g (ring_of p w) (seen_of w)) (refusal (step_checks p g (ring_of p w) (seen_of w)))
  -- what is told before a run
  pub step_bounds : (r : Rules) (clock end : ℕ) → TableSays (bounds_refusals r clock end) (bounds_number r clock end)
  pub arrow : (D : ℕ) (w : World) (row column : ℕ) → TableSays (arrow_refusals p D w row column) (arrow_number p D w row column)
  pub all_arrows : (D : ℕ) (w : World) (old : Sights) → TableSays (all_refusals p D w old) (all_number p D w old)
  pub wet_rows : (depths : List ℕ) (least numbers : ℕ) → TableSays (wet_refusals p depths least numbers) (wet_number p depths least numbers)

-- ---- "the run and everything lent stay as they were"

pub record RefusalsLeave (p : Plan) : Type 0 where
  pub step : (g : Given) (w : World) → (step_number p g w ≡ 0 → ⊥) → stepped p g w ≡ w
  pub take_back : (w : World) → (back_number p w ≡ 0 → ⊥) → taken_back p w ≡ w
  pub fresh : (r : Rules) (lasts records : List ℕ) → (fresh_number p r lasts records ≡ 0 → ⊥) → fresh_lasts p r lasts records ≡ lasts
  -- refused by its checks
  pub run-to : (g : Given) (end : ℕ) (w : World) → (refusal (run_checks p g end w) ≡ 0 → ⊥) → run_to p g end w ≡ ended (refusal (run_checks p g end w)) 0 w
  pub all_arrows : (D : ℕ) (w : World) (old new : Sights) (n : ℕ) → SeesAll p D w old n new → (n ≡ 0 → ⊥) → new ≡ old
  pub wet_rows : (depths : List ℕ) (least : ℕ) (old : List ℕ) (a : Wet) (rows : List ℕ) → WetRowed p depths least old a rows →
      (wet_number p depths least (length old) ≡ 0 → ⊥) → rows ≡ old

-- ---- "A run to a stated clock stops before the step refused"

-- "A run to an end makes steps while clock < end .. If one of its steps is refused, it gives that number with the steps made and leaves
-- the state before that step"
pub record StopsBefore (p : Plan) (g : Given) (end : ℕ) (w : World) (e : Ended) : Type 0 where
  pub world_is : e.world ≡ steps_on p g e.steps w
  pub each_made : (k : ℕ) → k < e.steps → step_number p g (steps_on p g k w) ≡ 0
  pub each_before : (k : ℕ) → k < e.steps → (steps_on p g k w).run.clock < end
  -- it ended there, or the next step is refused by that number
  pub comes-to : e.number ≡ 0 → end ≤ e.world.run.clock
  pub stops : (e.number ≡ 0 → ⊥) → (e.world.run.clock < end) × (e.number ≡ step_number p g e.world)
  -- and that is none of its checks' numbers
  pub late : (e.number ≡ 0 → ⊥) → last_check < e.number

-- a run to one clock and then to another is the run to the second: its number, its steps and its world
pub record InTwo (p : Plan) (g : Given) (first end : ℕ) (w : World) : Type 0 where
  pub same : run_to p g end w ≡ gone_on (run_to p g first w).steps (run_to p g end (run_to p g first w).world)

-- ---- all of it

pub record Demand1 : Type 0 where
  pub determined : Determined
  pub exactly_when : (p : Plan) → ExactlyWhen p
  pub refusals_leave : (p : Plan) → RefusalsLeave p
  pub loader : LoaderRefuses
  pub exports_exactly_when : (p : Plan) → ExportsExactlyWhen p
  pub exports_leave : (p : Plan) → ExportsLeave p
  pub run_stops : (p : Plan) (g : Given) (end : ℕ) (w : World) → refusal (run_checks p g end w) ≡ 0 → StopsBefore p g end w (run_to p g end w)
  pub run_in_two :
      (p : Plan) (g : Given) (first end : ℕ) (w : World) → first ≤ end → refusal (run_checks p g first w) ≡ 0 → refusal (run_checks p g end w) ≡ 0 →
      (run_to p g first w).number ≡ 0 → InTwo p g first end w
