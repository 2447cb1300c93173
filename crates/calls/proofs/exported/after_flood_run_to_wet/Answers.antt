-- `calls::exported::after_flood_run_to_wet` meets its contract: what the call promises is what its caller has.
-- Assumes nothing.
use Rattle.grid.specs.declared.walks.Walk.TheVariants.{Wet}
use Rattle.calls.proofs.ExportedLaws.{after_flood_run}
use Rattle.calls.proofs.exported.after_flood_run_to_wet.Goals as goal

pub returns : goal.returns
returns c = search (after_flood_run Wet)
