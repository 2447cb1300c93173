-- Document 01, "Numbers given back on refusal": a run to an end.
-- Assumes nothing.
use Rattle.std.specs.Prelude.{◌≡◌, List, ℕ, zero, suc, ◌+◌, ◌-◌, ltb}
use Rattle.reckon.specs.Tests.{pick, refusal}
use Rattle.ledger.specs.Runs.{Plan, World, world}
use Rattle.checks.specs.Given.{Given}
use Rattle.checks.specs.Refusals.{run_checks}
use Rattle.flood.specs.Step.{step_number, stepped}
use Rattle.flood.specs.declared.run.Ran.{Ran}

-- ---- a run to an end

-- How a run ends: the number it is refused with, 0 for none, the steps made, and the world it leaves.
pub record Ended : Type 0 where
  pub number : ℕ
  pub steps : ℕ
  pub world : World

abbrev pub ended : ℕ → ℕ → World → Ended
ended n k w = record { number = n; steps = k; world = w }

-- "If one of its steps is refused, it gives that number with the steps made and leaves the state before that step"
unfoldable pub go_on : ℕ → ℕ → World → Ended → Ended
go_on zero made before rest = rest
go_on (suc n) made before rest = ended (suc n) made before

-- a run that goes on after so many steps
abbrev pub gone_on : ℕ → Ended → Ended
gone_on made e = ended e.number (made + e.steps) e.world

module _ (p : Plan) (g : Given) (end : ℕ) where
  -- "A run to an end makes steps while clock < end": at most `most` more, after those made (`run_ends`, `run-refused` and `run_steps` are this sentence with no bound)
  unfoldable pub run_from : ℕ → ℕ → World → Ended
  run_from zero made w = ended 0 made w
  run_from (suc most) made w =
      pick (ltb w.run.clock end) (go_on (step_number p g w) made w (run_from most (suc made) (stepped p g w))) (ended 0 made w)

  -- rows 1 to 6 first; each step lasts at least 1 ms, so that no more steps than ms are left to the end
  unfoldable pub run_to : World → Ended
  run_to w = go_on (refusal (run_checks p g end w)) 0 w (run_from (end - w.run.clock) 0 w)

-- so many steps, one after the other
unfoldable pub steps_on : Plan → Given → ℕ → World → World
steps_on p g zero w = w
steps_on p g (suc n) w = stepped p g (steps_on p g n w)

-- ---- what the public function gives

-- number, steps and run value as the answer tells them, and the world afterwards
pub record RunsTo (p : Plan) (g : Given) (end : ℕ) (w : World) (a : Ran) (depths lasts records : List ℕ) : Type 0 where
  pub ends : ended a.refused a.steps (world depths lasts records a.run) ≡ run_to p g end w
