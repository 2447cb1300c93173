-- `evenings::program::first_night` meets its contract: a record is kept of every grid of the program.
-- Assumes nothing.
use native.Mathlib.Omega.{arith}
use Rattle.evenings.proofs.NightLaws.{kept_some}
use Rattle.evenings.proofs.program.first_night.Goals as goal

pub fresh_run-run-requires : goal.fresh_run-run-requires
fresh_run-run-requires c = omega (arith, c.kept_records-slots.ensures, kept_some c.args.heading.shape c.requires.1)
