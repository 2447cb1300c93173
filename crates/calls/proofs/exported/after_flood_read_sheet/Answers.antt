-- `calls::exported::after_flood_read_sheet` meets its contract: what the call promises is what its caller has.
-- Assumes nothing.
use Rattle.calls.proofs.ExportedLaws.{after_flood_read}
use Rattle.calls.proofs.exported.after_flood_read_sheet.Goals as goal

pub returns : goal.returns
returns c = search after_flood_read
