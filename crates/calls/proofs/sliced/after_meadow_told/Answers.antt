-- `calls::sliced::after_meadow_told` meets its contract: what the call promises is what its caller has.
-- Assumes nothing.
use Rattle.calls.proofs.LibraryLaws.{after-meadow}
use Rattle.calls.proofs.sliced.after_meadow_told.Goals as goal

pub returns : goal.returns
returns o c = search after-meadow
