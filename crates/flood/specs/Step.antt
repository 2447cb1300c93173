-- Document 01, "The step" and "Numbers given back on refusal": a step, refused or made.
-- Assumes nothing.
use Rattle.std.specs.Prelude.{List, ℕ, ◌≡◌, ◌++◌, eqb}
use Rattle.reckon.specs.Tests.{pick, refusal}
use Rattle.ledger.specs.Runs.{Plan, World, answered, seen_of}
use Rattle.ledger.specs.After.{late_refusals, world_after}
use Rattle.checks.specs.Given.{Given}
use Rattle.ledger.specs.Record.{ring_of}
use Rattle.ledger.specs.declared.runs.Answer.{Answer}
use Rattle.moves.specs.Moves.{step_moves}
use Rattle.checks.specs.Refusals.{step_checks}

module _ (p : Plan) (g : Given) where
  -- the first number of the table that applies, 0 for none
  unfoldable pub step_number : World → ℕ
  step_number w = refusal (step_checks p g (ring_of p w) (seen_of w) ++ late_refusals p (step_moves p g (seen_of w)) w)

  -- "with the run as it was and every lent slice as it was", or the world after the step
  unfoldable pub stepped : World → World
  stepped w = pick (eqb (step_number w) 0) (world_after p (step_moves p g (seen_of w)) w) w

-- ---- what the public functions give

-- the answer, and the world afterwards with the run value that the answer tells
pub record Steps (p : Plan) (g : Given) (w : World) (a : Answer) (depths lasts records : List ℕ) : Type 0 where
  pub answer : a ≡ answered (step_number p g w) (stepped p g w).run
  pub depths_are : depths ≡ (stepped p g w).depths
  pub lasts_are : lasts ≡ (stepped p g w).lasts
  pub records_are : records ≡ (stepped p g w).records

-- what the inner step asks: rows 1 to 6 pass
pub record Passes (p : Plan) (g : Given) (w : World) : Type 0 where
  pub checked : refusal (step_checks p g (ring_of p w) (seen_of w)) ≡ 0

-- and gives: the refusal's number, 0 for none, and the world afterwards
pub record MakesStep (p : Plan) (g : Given) (w : World) (refused : ℕ) (after : World) : Type 0 where
  pub number : refused ≡ step_number p g w
  pub world_is : after ≡ stepped p g w
