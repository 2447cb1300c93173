-- `calls::exported::after_flood_meadow` meets its contract: what the call promises is what its caller has.
-- Assumes nothing.
use Rattle.calls.proofs.ExportedLaws.{after_flood_meadow}
use Rattle.calls.proofs.exported.after_flood_meadow.Goals as goal

pub returns : goal.returns
returns c = search after_flood_meadow
