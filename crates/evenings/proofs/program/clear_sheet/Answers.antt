-- `evenings::program::clear_sheet` meets its contract: each room is as long as its type says, and cleared.
-- Assumes nothing.
use native.Mathlib.Omega.{arith}
use Rattle.reckon.specs.Tables.{rain_kind, inflow_kind, table_room}
use Rattle.programs.specs.Program.{program_squares}
use Rattle.evenings.proofs.NightLaws.{zeros_of, rooms_zero}
use Rattle.evenings.proofs.program.clear_sheet.Goals as goal

pub returns : goal.returns
returns c =
    rooms_zero (zeros_of program_squares c.args.marks.now (omega arith) (c.fill.ensures.after (λ y e. e))) (zeros_of program_squares c.args.beds.now (omega arith) c.clear.ensures)
    (zeros_of program_squares c.args.roughness.now (omega arith) c.clear-2.ensures) (zeros_of program_squares c.args.rates.now (omega arith) c.clear-3.ensures)
    (zeros_of program_squares c.args.depths.now (omega arith) c.clear-6.ensures) (zeros_of (table_room rain_kind) c.args.rain.now (omega arith) c.clear-4.ensures)
    (zeros_of (table_room inflow_kind) c.args.inflow.now (omega arith) c.clear-5.ensures)
