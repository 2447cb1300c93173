use Rattle.sheet.specs.Sheet.{rooms}
use Rattle.evenings.specs.Program.{stores}
use mathlib.Core.Path.{ap, ◌∙◌}
use Rattle.desks.specs.Command.{is_sheet, wanted_by}
use Rattle.desks.proofs.LeftLaws.{command_sheet, command_other}
use Rattle.desks.proofs.command.command.Goals as goal

-- src/command.rt:257:9
pub returns-then-is_sheet : goal.returns-then-is_sheet
returns-then-is_sheet c =
    let a = c.args in
    command_sheet a.desk
    (stores (rooms a.marks.now a.beds.now a.roughness.now a.rates.now a.depths.now a.rain.now a.inflow.now)
    a.lasts.now a.records.now a.began.now) a.text.now _ (c.is_sheet.ensures ∙ ap is_sheet c.order_of-asked.ensures)
    c.if-is_sheet.true (c.wanted_by.ensures ∙ ap wanted_by c.order_of-asked.ensures) (c.sheet_line.ensures a.records.now a.began.now)

-- src/command.rt:237:1
pub returns : goal.returns
returns c =
    let a = c.args in
    command_other a.desk
    (stores (rooms a.marks.now a.beds.now a.roughness.now a.rates.now a.depths.now a.rain.now a.inflow.now)
    a.lasts.now a.records.now a.began.now) a.text.now _ (c.is_sheet.ensures ∙ ap is_sheet c.order_of-asked.ensures) c.if-is_sheet.false
    c.order_of-asked.ensures (c.other_line.ensures a.beds.now a.roughness.now a.rates.now a.rain.now)
