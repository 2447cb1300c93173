-- `survey::moving::put_read` meets its contract: the parts that belong to the sheet lie in their rooms.
-- Assumes nothing.
use native.Mathlib.Omega.{arith}
use Rattle.sheet.specs.Sheet.{Rooms, rooms}
use Rattle.programs.proofs.HeldLaws.{part_long}
use Rattle.survey.proofs.MovingLaws.{parts_writable, parts_wrote}
use Rattle.survey.proofs.moving.put_read.Goals as goal
use Rattle.survey.proofs.moving.put_read.Goals.{Start}

abbrev held : Start → Rooms
held s =
    rooms s.args.marks.now s.args.beds.now s.args.roughness.now s.args.rates.now s.args.depths.now s.args.rain.now
    s.args.inflow.now

pub slice_bounds-put_part-end : goal.slice_bounds-put_part-end
slice_bounds-put_part-end c = part_long _ (omega (arith, c.requires.holds.0.few, c.requires.holds.0.marks_long, c.squares_of-squares.ensures))

pub slice_bounds-put_part-end-2 : goal.slice_bounds-put_part-end-2
slice_bounds-put_part-end-2 c = part_long _ (omega (arith, c.requires.holds.0.few, c.requires.holds.0.beds_long, c.squares_of-squares.ensures))

pub slice_bounds-put_part-end-3 : goal.slice_bounds-put_part-end-3
slice_bounds-put_part-end-3 c = part_long _ (omega (arith, c.requires.holds.0.few, c.requires.holds.0.roughness_long, c.squares_of-squares.ensures))

pub slice_bounds-put_part-end-4 : goal.slice_bounds-put_part-end-4
slice_bounds-put_part-end-4 c = part_long _ (omega (arith, c.requires.holds.0.few, c.requires.holds.0.rates_long, c.squares_of-squares.ensures))

pub slice_bounds-put_part-end-5 : goal.slice_bounds-put_part-end-5
slice_bounds-put_part-end-5 c = part_long _ (omega (arith, c.requires.holds.0.few, c.requires.holds.0.depths_long, c.squares_of-squares.ensures))

pub slice_bounds-put_part-end-6 : goal.slice_bounds-put_part-end-6
slice_bounds-put_part-end-6 c = part_long _ (omega (arith, c.requires.holds.0.rain_few, c.requires.holds.0.rain_long))

pub slice_bounds-put_part-end-7 : goal.slice_bounds-put_part-end-7
slice_bounds-put_part-end-7 c = part_long _ (omega (arith, c.requires.holds.0.inflow_few, c.requires.holds.0.inflow_long))

pub put_part-requires : goal.put_part-requires
put_part-requires c = record {
  writable = parts_writable c.args.heading (held (goal.at.put_part-requires c).Start) c.squares_of-squares.ensures c.requires.holds.1;
  most_file_in_bounds = c.requires.most_file_in_bounds;
}

pub returns : goal.returns
returns c = parts_wrote c.args.heading (held (goal.at.returns c).Start) c.squares_of-squares.ensures c.args.part c.put_part.ensures
