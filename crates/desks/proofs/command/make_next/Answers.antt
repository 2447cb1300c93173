-- `desks::command::make_next` meets its contract: nothing is known, so that the checks are made.
-- Assumes nothing.
use mathlib.Core.Path.{refl}
use Rattle.reckon.proofs.TestLaws.{not_both}
use Rattle.desks.proofs.command.make_next.Goals as goal

pub make_step-requires : goal.make_step-requires
make_step-requires c = λ y. not_both y refl
