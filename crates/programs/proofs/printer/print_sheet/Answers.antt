-- `programs::printer::print_sheet` meets its contract: the parts that belong to the sheet lie in their rooms.
-- Assumes nothing.
use Rattle.sheet.specs.Sheet.{rooms}
use Rattle.sheet.proofs.JudgeLaws.{zeros_are}
use Rattle.programs.proofs.HeldLaws.{record-in}
use Rattle.programs.proofs.PrinterLaws.{parts_begin, printed-parts}
use Rattle.programs.proofs.printer.print_sheet.Goals as goal

pub print-requires : goal.print-requires
print-requires g c =
    let h = c.requires.0 in
    let n = c.squares_of-squares.ensures in
    (parts_begin h n (zeros_are _ _ n h.few) (zeros_are _ _ c.record_size-size.ensures (record-in h)), c.requires.1)

pub returns : goal.returns
returns g c =
    let a = c.args in
    let held = rooms a.marks.now a.beds.now a.roughness.now a.rates.now a.depths.now a.rain.now a.inflow.now in
    printed-parts (g.P.Printer.printed a.printer.now) a.heading held c.squares_of-squares.ensures c.print.ensures
