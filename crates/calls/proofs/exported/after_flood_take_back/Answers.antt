-- `calls::exported::after_flood_take_back` meets its contract: what the call promises is what its caller has.
-- Assumes nothing.
use Rattle.calls.proofs.ExportedLaws.{after_flood_back}
use Rattle.calls.proofs.exported.after_flood_take_back.Goals as goal

pub returns : goal.returns
returns c = search after_flood_back
