-- `programs::running::run_sheet` meets its contract: the run starts from nothing.
-- Assumes nothing.
use Rattle.sheet.specs.Sheet.{Rooms, rooms}
use Rattle.programs.proofs.RunLaws.{runs_sheet}
use Rattle.programs.proofs.running.run_sheet.Goals as goal
use Rattle.programs.proofs.running.run_sheet.Goals.{Start}

-- what the rooms hold
abbrev held : Start → Rooms
held c = rooms c.args.marks.now c.args.beds.now c.args.roughness.now c.args.rates.now c.args.depths.now c.args.rain.now c.args.inflow.now

pub returns : goal.returns
returns c = runs_sheet c.args.heading (held (goal.at.returns c).Start) c.requires.lasts_value.0 c.requires.lasts_value.1 c.fresh_run-run.ensures c.run_to.ensures
