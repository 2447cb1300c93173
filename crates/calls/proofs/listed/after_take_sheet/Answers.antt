-- `calls::listed::after_take_sheet` meets its contract: what the call promises is what its caller has.
-- Assumes nothing.
use Rattle.calls.proofs.ListedLaws.{after_sheet}
use Rattle.calls.proofs.listed.after_take_sheet.Goals as goal

pub returns : goal.returns
returns c = after_sheet c.take_sheet.ensures
