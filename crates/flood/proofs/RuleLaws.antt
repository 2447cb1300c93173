-- The flood's rule is a rule of the ledger's engine.
-- Assumes nothing.
use Rattle.ledger.specs.Runs.{Plan}
use Rattle.ledger.specs.Inner.Engine.{Owed}
use Rattle.moves.specs.Moves.{step_duration}
use Rattle.flood.specs.Inner.Rule.{flood_rule}
use Rattle.moves.proofs.MoveLaws.{lost_covered, step-length_from, step-length_to, step_lasts_from, step_lasts_to}
use Rattle.checks.proofs.CheckLaws.{ready, checks_look, checks_named}

pub flood_owed : (p : Plan) → Owed p (flood_rule p)
flood_owed p =
    record {
      looks = λ ring g v e. checks_look p g ring v e;
      named = λ ring g v. checks_named p g ring v;
      lasts_from = λ ring g v e. step_lasts_from p g v (ready p g ring v e);
      lasts_to = λ ring g v e. step_lasts_to p g v (ready p g ring v e);
      length_from = λ ring g v e. step-length_from p g v (ready p g ring v e);
      length_to = λ ring g v e. step-length_to p g v (ready p g ring v e);
      covered = λ ring g v e i h s. lost_covered p g.lie v.depths v.lasts (step_duration p g v) i v.clock s;
    }
