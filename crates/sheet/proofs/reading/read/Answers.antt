-- `sheet::reading::read` meets its contract: each refusal in its order, and then the rooms are filled.
-- Assumes nothing.
use mathlib.Core.Path.{ap}
use mathlib.Core.Bool.{not}
use mathlib.Core.Bool.{true}
use mathlib.Core.Path.{◌≡◌}
use native.Mathlib.Omega.{arith}
use Rattle.checks.proofs.CheckLaws.{fails_by, holds_by}
use Rattle.sheet.specs.Sheet.{Rooms, rooms, rooms_fine, checks_of}
use Rattle.sheet.specs.Inner.Reading.{BodyIs}
use Rattle.sheet.proofs.ReadLaws.{plain_rain, plain_inflow}
use Rattle.sheet.proofs.JudgeLaws.{rain_rows_at, inflow_rows_at}
use Rattle.sheet.proofs.SheetLaws.{rooms-shape, rooms_cells, rooms-tables, rain_few, inflow_few, no_check, refused-first, refused-rooms, refused_verdict, read_well}
use Rattle.sheet.proofs.reading.read.Goals as goal
use Rattle.sheet.proofs.reading.read.Goals.{Start, Else-not-rooms_fine, Else-verdict-ne0}

-- what is known there
abbrev lent : Start → Rooms
lent c =
    let a = c.args in
    rooms a.marks.now a.beds.now a.roughness.now a.rates.now a.depths.now a.rain.now a.inflow.now

fine : (c : Else-not-rooms_fine) → rooms_fine c.in-Some.top.shape c.in-Some.top.side (lent (goal.at.Else-not-rooms_fine c).Start) ≡ true
unfolding rooms_fine
fine c = holds_by c.rooms_fine.ensures (ap not c.if-not-rooms_fine.false)

body : (c : Else-verdict-ne0) → BodyIs c.args.text.now c.decide-verdict.result.body
body c = c.decide-verdict.ensures.body_is c.if-verdict-ne0.false

checked : (c : Else-verdict-ne0) → checks_of c.args.text.now ≡ 0
checked c =
    no_check _ c.in-Some.ensures (lent (goal.at.Else-verdict-ne0 c).Start) (fine (goal.at.Else-verdict-ne0 c).Else-not-rooms_fine)
    c.decide-verdict.ensures c.if-verdict-ne0.false

pub returns-in_default : goal.returns-in_default
returns-in_default c = refused-first _ c.in_default.ensures _

pub returns-then-not-rooms_fine : goal.returns-then-not-rooms_fine
unfolding rooms_fine
returns-then-not-rooms_fine c = refused-rooms _ c.in-Some.ensures _ (fails_by c.rooms_fine.ensures (ap not c.if-not-rooms_fine.true))

pub decide-verdict-requires : goal.decide-verdict-requires
decide-verdict-requires c =
    let g = c.in-Some.top in
    (c.in-Some.ensures, rooms-shape g.shape g.side (lent (goal.at.decide-verdict-requires c).Start) (fine c))

pub returns-then-verdict-ne0 : goal.returns-then-verdict-ne0
returns-then-verdict-ne0 c = refused_verdict _ c.in-Some.ensures (lent (goal.at.returns-then-verdict-ne0 c).Start) (fine (goal.at.returns-then-verdict-ne0 c).Else-not-rooms_fine) c.decide-verdict.ensures c.if-verdict-ne0.true

pub fill_cells-requires : goal.fill_cells-requires
fill_cells-requires c =
    let g = c.in-Some.top in record {
      shape_in_range = rooms-shape g.shape g.side (lent (goal.at.fill_cells-requires c).Start) (fine (goal.at.fill_cells-requires c).Else-not-rooms_fine);
      shape_in_bounds = rooms_cells g.shape g.side (lent (goal.at.fill_cells-requires c).Start) (fine (goal.at.fill_cells-requires c).Else-not-rooms_fine);
    }

pub fill_rows-requires : goal.fill_rows-requires
fill_rows-requires c =
    let g = c.in-Some.top in
    let few = rain_few c.args.text.now (checked (goal.at.fill_rows-requires c).Else-verdict-ne0) in
    let rows = rain_rows_at (body (goal.at.fill_rows-requires c).Else-verdict-ne0) in record {
      width_le_most_fields = (omega arith, plain_rain);
      count_bound = (omega (arith, rows), omega (arith, few, (rooms-tables g.shape g.side (lent (goal.at.fill_rows-requires c).Start) (fine (goal.at.fill_rows-requires c).Else-not-rooms_fine)).0, (body (goal.at.fill_rows-requires c).Else-verdict-ne0).rain_rows_are));
    }

pub fill_rows-requires-2 : goal.fill_rows-requires-2
fill_rows-requires-2 c =
    let g = c.in-Some.top in
    let few = inflow_few c.args.text.now (checked (goal.at.fill_rows-requires-2 c).Else-verdict-ne0) in
    let rows = inflow_rows_at (body (goal.at.fill_rows-requires-2 c).Else-verdict-ne0) in record {
      width_le_most_fields = (omega arith, plain_inflow);
      count_bound = (omega (arith, rows), omega (arith, few, (rooms-tables g.shape g.side (lent (goal.at.fill_rows-requires-2 c).Start) (fine (goal.at.fill_rows-requires-2 c).Else-not-rooms_fine)).1, (body (goal.at.fill_rows-requires-2 c).Else-verdict-ne0).inflow_rows_are));
    }

pub shape_of-marks : goal.shape_of-marks
shape_of-marks c = c.fill_cells.auto.marks

pub shape_of-beds : goal.shape_of-beds
shape_of-beds c = c.fill_cells.auto.beds

pub shape_of-roughness : goal.shape_of-roughness
shape_of-roughness c = c.fill_cells.auto.roughness

pub shape_of-rates : goal.shape_of-rates
shape_of-rates c = c.fill_cells.auto.rates

pub shape_of-depths : goal.shape_of-depths
shape_of-depths c = c.fill_cells.auto.depths

pub shape_of-rain : goal.shape_of-rain
shape_of-rain c = c.fill_rows.auto.room

pub shape_of-inflow : goal.shape_of-inflow
shape_of-inflow c = c.fill_rows-2.auto.room

pub returns : goal.returns
returns c =
    read_well _ c.in-Some.ensures (lent (goal.at.returns c).Start) (fine (goal.at.returns c).Else-not-rooms_fine) c.decide-verdict.ensures
    c.if-verdict-ne0.false c.fill_cells.ensures c.fill_rows.ensures c.fill_rows-2.ensures
