-- `calls::exported::after_flood_step` meets its contract: what the call promises is what its caller has.
-- Assumes nothing.
use Rattle.grid.specs.declared.walks.Walk.TheVariants.{All}
use Rattle.calls.proofs.ExportedLaws.{after_flood_step}
use Rattle.calls.proofs.exported.after_flood_step.Goals as goal

pub returns : goal.returns
returns c = search (after_flood_step All)
