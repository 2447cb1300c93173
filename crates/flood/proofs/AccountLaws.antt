-- The account of a step of the flood: water, outflow and soaked grow by what the tables give between its clocks. It rests on the wall
-- rule and on what every edition owes, and on nothing else of the rule.
-- Assumes nothing.
use mathlib.Core.Path.{◌≡◌}
use Prim.Native.Nat.{◌+◌}
use Rattle.ledger.specs.Runs.{Plan, World, seen_of}
use Rattle.ledger.specs.Record.{ring_of}
use Rattle.ledger.specs.After.{world_after}
use Rattle.ledger.specs.Account.{held}
use Rattle.ledger.proofs.Account.{Balanced, step_balance}
use Rattle.checks.specs.Given.{Given}
use Rattle.moves.specs.Moves.{step_moves, step_duration}
use Rattle.adding.specs.Account.{tables_give}
use Rattle.moves.proofs.MoveLaws.{flood_walled, lost_covered}
use Rattle.flood.specs.Step.{step_number, stepped}
use Rattle.checks.proofs.CheckLaws.{ready}
use Rattle.flood.proofs.RunToLaws.{made_is, checks_passed}

module _ (p : Plan) (g : Given) (w : World) (made : step_number p g w ≡ 0) where
  balanced : Balanced p (step_moves p g (seen_of w)) w
  balanced =
      let sited = (ready p g (ring_of p w) (seen_of w) (checks_passed p g w made)).flows.lies.sited in
      record {
        walled = flood_walled p g.lie w.depths w.lasts (step_duration p g (seen_of w));
        marks_long = sited.marks_long;
        depths_long = sited.depths_long;
        covered = λ i l e. lost_covered p g.lie w.depths w.lasts (step_duration p g (seen_of w)) i w.run.clock e;
      }

  pub step_accounts : held p (stepped p g w) ≡ held p w + tables_give p g w.run.clock (stepped p g w).run.clock
  unfolding tables_give world_after
  step_accounts = rw (made_is p g w made) (step_balance p (step_moves p g (seen_of w)) w balanced)
