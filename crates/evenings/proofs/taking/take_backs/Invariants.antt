use Rattle.ledger.specs.Runs.{plan, world}
use Rattle.evenings.proofs.BackLaws.{Backing}
use Rattle.evenings.proofs.taking.take_backs.Given as goal

abbrev pub invariant-loop-steps : goal.invariant-loop-steps
invariant-loop-steps l = Backing (plan l.shape l.marks) l.most (world l.initial.depths l.initial.lasts l.records l.initial.at) (world l.depths l.lasts l.records l.at) l.steps
