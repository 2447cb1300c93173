-- The contract leaves one outcome: it is that of the run in one.
-- Assumes nothing.
use Rattle.programs.proofs.Determined.{programs_determined}
use Rattle.slices.specs.Inner.Determined.{SlicesDetermined}

pub slices_determined : SlicesDetermined
slices_determined = record { run_slices = programs_determined.run_sheet }
