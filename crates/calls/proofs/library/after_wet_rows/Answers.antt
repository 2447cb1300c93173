-- `calls::library::after_wet_rows` meets its contract: what the call promises is what its caller has.
-- Assumes nothing.
use Rattle.calls.proofs.LibraryLaws.{after_wet}
use Rattle.calls.proofs.library.after_wet_rows.Goals as goal

pub returns : goal.returns
returns c = search after_wet
