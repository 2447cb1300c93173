-- Every contract leaves one outcome: each is an equation for all that a call gives.
-- Assumes nothing.
use Rattle.reckon.proofs.OutcomeLaws.{exactly}
use Rattle.rule.specs.Inner.Determined.{RuleDetermined}

pub rule_determined : RuleDetermined
rule_determined =
    record {
      drop-to = λ own neighbour. exactly;
      drop-off = λ r depth. exactly;
      shorter = λ r best depth roughness drops. exactly;
      held-length = λ r candidate. exactly;
      is-update = λ r clock. exactly;
      duration-for = λ r clock held. exactly;
      steps-over = λ time held. exactly;
      rules-fine = λ r. exactly;
      ground-fine = λ bed roughness. exactly;
      weigh = λ r depth last roughness ms drops. exactly;
    }
