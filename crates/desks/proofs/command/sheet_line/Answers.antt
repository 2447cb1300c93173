use native.Mathlib.Omega.{arith}
use Rattle.sheet.specs.Sheet.{rooms}
use Rattle.evenings.specs.Program.{stores}
use Rattle.desks.proofs.LeftLaws.{read_shape, sheet_short, sheet_refused, sheet_read}
use Rattle.desks.proofs.command.sheet_line.Goals as goal

-- src/command.rt:135:9
pub returns-then-text-bytes : goal.returns-then-text-bytes
returns-then-text-bytes c =
    let a = c.args in
    λ records began. sheet_short a.desk
    (stores (rooms a.marks.now a.beds.now a.roughness.now a.rates.now a.depths.now a.rain.now a.inflow.now)
    a.lasts.now records began) a.text.now a.bytes c.if-text-bytes.true
    c.refuse_line.ensures

-- src/command.rt:150:33
pub lay_sheet-requires : goal.lay_sheet-requires
lay_sheet-requires c = (
  read_shape c.read_within-sheet.ensures c.in-Read.is,
  omega (arith, c.requires.marks_long, c.read_within-sheet.auto.marks),
  omega (arith, c.requires.depths_long, c.read_within-sheet.auto.depths),
  omega (arith, c.requires.out_long),
)

-- src/command.rt:117:1
pub shape_of-marks-in-Refused : goal.shape_of-marks-in-Refused
shape_of-marks-in-Refused c = c.read_within-sheet.auto.marks

-- src/command.rt:117:1
pub shape_of-beds-in-Refused : goal.shape_of-beds-in-Refused
shape_of-beds-in-Refused c = c.read_within-sheet.auto.beds

-- src/command.rt:117:1
pub shape_of-roughness-in-Refused : goal.shape_of-roughness-in-Refused
shape_of-roughness-in-Refused c = c.read_within-sheet.auto.roughness

-- src/command.rt:117:1
pub shape_of-rates-in-Refused : goal.shape_of-rates-in-Refused
shape_of-rates-in-Refused c = c.read_within-sheet.auto.rates

-- src/command.rt:117:1
pub returns-in-Refused : goal.returns-in-Refused
returns-in-Refused c =
    let a = c.args in
    λ records began. sheet_refused a.desk
    (stores (rooms a.marks.now a.beds.now a.roughness.now a.rates.now a.depths.now a.rain.now a.inflow.now)
    a.lasts.now records began) a.text.now a.bytes c.if-text-bytes.false c.read_within-sheet.ensures c.in-Refused.is
    c.refuse_line-in-Refused.ensures

-- src/command.rt:117:1
pub shape_of-marks-in-Read : goal.shape_of-marks-in-Read
shape_of-marks-in-Read c = c.read_within-sheet.auto.marks

-- src/command.rt:117:1
pub shape_of-beds-in-Read : goal.shape_of-beds-in-Read
shape_of-beds-in-Read c = c.read_within-sheet.auto.beds

-- src/command.rt:117:1
pub shape_of-roughness-in-Read : goal.shape_of-roughness-in-Read
shape_of-roughness-in-Read c = c.read_within-sheet.auto.roughness

-- src/command.rt:117:1
pub shape_of-rates-in-Read : goal.shape_of-rates-in-Read
shape_of-rates-in-Read c = c.read_within-sheet.auto.rates

-- src/command.rt:117:1
pub shape_of-rain-in-Read : goal.shape_of-rain-in-Read
shape_of-rain-in-Read c = c.read_within-sheet.auto.rain

-- src/command.rt:117:1
pub shape_of-depths-in-Read : goal.shape_of-depths-in-Read
shape_of-depths-in-Read c = c.read_within-sheet.auto.depths

-- src/command.rt:117:1
pub returns-in-Read : goal.returns-in-Read
returns-in-Read c =
    let a = c.args in
    λ records began. sheet_read a.desk
    (stores (rooms a.marks.now a.beds.now a.roughness.now a.rates.now a.depths.now a.rain.now a.inflow.now)
    a.lasts.now records began) a.text.now a.bytes c.if-text-bytes.false c.read_within-sheet.ensures c.in-Read.is
    c.lay_sheet.ensures
