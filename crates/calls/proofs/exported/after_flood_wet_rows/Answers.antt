-- `calls::exported::after_flood_wet_rows` meets its contract: what the call promises is what its caller has.
-- Assumes nothing.
use Rattle.calls.proofs.ExportedLaws.{after_flood_wet}
use Rattle.calls.proofs.exported.after_flood_wet_rows.Goals as goal

pub returns : goal.returns
returns c = search after_flood_wet
