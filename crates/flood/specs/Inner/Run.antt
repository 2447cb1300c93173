-- What the steps of a run give, once its checks have passed, and what is kept of them.
-- Assumes nothing.
use Rattle.std.specs.Prelude.{◌≡◌, List, ℕ, zero, suc, ◌-◌, ◌<◌}
use Rattle.ledger.specs.Runs.{Plan, World, world}
use Rattle.checks.specs.Given.{Given}
use Rattle.flood.specs.Run.{ended, run_from, steps_on}
use Rattle.flood.specs.declared.run.Ran.{Ran}

module _ {K : Type 0} (keeps : Plan → List ℕ → ℕ → ℕ → K → K → Type 0) (p : Plan) (g : Given) where
  -- what is kept of a step from one world to another, whose clock is later
  pub record KeptOf (now after : World) (k k' : K) : Type 0 where
    pub later : now.run.clock < after.run.clock
    pub kept : keeps p after.depths now.run.clock after.run.clock k k'

  -- and of so many steps, each as it is made
  unfoldable pub KeptOver : World → ℕ → K → K → Type 0
  KeptOver w zero k k' = k' ≡ k
  KeptOver w (suc n) k k' = (m : K) × KeptOver w n k m × KeptOf (steps_on p g n w) (steps_on p g (suc n) w) m k'

  -- number, steps and run value as the answer tells them, and the world and what is kept afterwards
  pub record RunsKept (end : ℕ) (w : World) (k : K) (a : Ran) (depths lasts records : List ℕ) (k' : K) : Type 0 where
    pub ends : ended a.refused a.steps (world depths lasts records a.run) ≡ run_from p g end (end - w.run.clock) 0 w
    pub kept : KeptOver w a.steps k k'
