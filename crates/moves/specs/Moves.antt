-- Document 01, "The step": what a step moves. "All amounts are worked from the state before the step."
-- Assumes nothing.
use Rattle.std.specs.Prelude.{List, [], ℕ, ◌+◌, ◌-◌, min, get_or}
use Rattle.reckon.specs.Tests.{pick}
use Rattle.reckon.specs.Lists.{joined}
use Rattle.reckon.specs.Soaking.{soak_due}
use Rattle.grid.specs.Squares.{squares}
use Rattle.rule.specs.Weighing.{weighed}
use Rattle.rule.specs.Length.{candidates_of, length_at, duration_for}
use Rattle.ledger.specs.Runs.{Plan, Seen}
use Rattle.ledger.specs.Flows.{Leaves, shut, gone}
use Rattle.ledger.specs.After.{Moves}
use Rattle.checks.specs.Given.{Ground, Given}
use Rattle.adding.specs.Added.{added_for}
use Rattle.moves.specs.Drops.{drops_of}

-- ---- amounts, by how long the step lasts

module _ (p : Plan) (o : Ground) (depths : List ℕ) where
  -- "For each square not closed with d > 0 and each side": the candidates of one square, and of all
  unfoldable pub square_candidates : ℕ → List ℕ
  square_candidates i = pick (shut p i) [] (candidates_of o.rules (get_or depths i 0) (get_or o.roughness i 0) (drops_of p o.rules o.beds depths i))

  unfoldable pub candidates : List ℕ
  candidates = joined (squares p.shape) square_candidates

  -- what leaves a square not closed through a side
  unfoldable pub leaves_for : List ℕ → ℕ → Leaves
  leaves_for lasts ms i side =
      pick (shut p i) 0 (get_or (weighed o.rules (get_or depths i 0) (get_or lasts i 0) (get_or o.roughness i 0) ms (drops_of p o.rules o.beds depths i)) side 0)

  -- "It takes the smaller of that due and the depth left after the four sides have taken theirs" (document 02, #106): what soaks into a
  -- square not closed in a step from a clock on
  unfoldable pub soaked_for : List ℕ → ℕ → ℕ → ℕ → ℕ
  soaked_for lasts start ms i =
      pick (shut p i) 0 (min (soak_due (get_or o.rates i 0) start (start + ms)) (get_or depths i 0 - gone (leaves_for lasts ms) i))

-- ---- the step

module _ (p : Plan) (g : Given) (v : Seen) where
  -- "Step length: when the clock is a multiple of U it is worked afresh .. the run holds it until the next such clock"
  unfoldable pub step_length : ℕ
  step_length = length_at g.lie.rules v.clock v.length (candidates p g.lie v.depths)

  -- "The step lasts the smaller of that length and the time to the next multiple of U"
  unfoldable pub step_duration : ℕ
  step_duration = duration_for g.lie.rules v.clock step_length

  abbrev pub step_moves : Moves
  step_moves =
      record {
        leaves = leaves_for p g.lie v.depths v.lasts step_duration;
        added = added_for p g v.clock (v.clock + step_duration);
        soaked = soaked_for p g.lie v.depths v.lasts v.clock step_duration;
        duration = step_duration;
        length = step_length;
      }
