-- `desks::command::make_further` meets its contract: what passes the checks is required.
-- Assumes nothing.
use Rattle.desks.proofs.command.make_further.Goals as goal

pub make_step-requires : goal.make_step-requires
make_step-requires c = λ y. c.requires
