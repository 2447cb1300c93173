-- `survey::returning::put_lying` meets its contract: the parts that belong to the heading lie in their rooms.
-- Assumes nothing.
use native.Mathlib.Omega.{arith}
use Rattle.sheet.specs.Sheet.{Rooms, rooms}
use Rattle.programs.proofs.HeldLaws.{part_long}
use Rattle.survey.proofs.MovingLaws.{parts_judged, parts_moved}
use Rattle.survey.proofs.returning.put_lying.Goals as goal
use Rattle.survey.proofs.returning.put_lying.Goals.{Start}

abbrev held : Start → Rooms
held s =
    rooms s.args.marks.now s.args.beds.now s.args.roughness.now s.args.rates.now s.args.depths.now s.args.rain.now
    s.args.inflow.now

pub overflow_mul-inflow_end : goal.overflow_mul-inflow_end
overflow_mul-inflow_end c = omega (arith, c.requires.lies.inflow_few)

pub slice_bounds-put_judged-end : goal.slice_bounds-put_judged-end
slice_bounds-put_judged-end c = part_long _ (omega (arith, c.requires.lies.marks, c.squares_of-squares.ensures))

pub slice_bounds-put_judged-end-2 : goal.slice_bounds-put_judged-end-2
slice_bounds-put_judged-end-2 c = part_long _ (omega (arith, c.requires.lies.beds, c.squares_of-squares.ensures))

pub slice_bounds-put_judged-end-3 : goal.slice_bounds-put_judged-end-3
slice_bounds-put_judged-end-3 c = part_long _ (omega (arith, c.requires.lies.roughness, c.squares_of-squares.ensures))

pub slice_bounds-put_judged-end-4 : goal.slice_bounds-put_judged-end-4
slice_bounds-put_judged-end-4 c = part_long _ (omega (arith, c.requires.lies.rates, c.squares_of-squares.ensures))

pub slice_bounds-put_judged-end-5 : goal.slice_bounds-put_judged-end-5
slice_bounds-put_judged-end-5 c = part_long _ (omega (arith, c.requires.lies.depths, c.squares_of-squares.ensures))

pub slice_bounds-put_judged-end-6 : goal.slice_bounds-put_judged-end-6
slice_bounds-put_judged-end-6 c = part_long _ (omega (arith, c.requires.lies.rain))

pub slice_bounds-put_judged-end-7 : goal.slice_bounds-put_judged-end-7
slice_bounds-put_judged-end-7 c = part_long _ (omega (arith, c.requires.lies.inflow))

pub put_judged-requires : goal.put_judged-requires
put_judged-requires c = record {
  shape_in_range = (c.requires.lies.shape, c.requires.most_file_in_bounds);
  judged = parts_judged c.args.heading (held (goal.at.put_judged-requires c).Start) c.squares_of-squares.ensures c.requires.lies.judged;
}

pub returns : goal.returns
returns c = parts_moved c.args.heading (held (goal.at.returns c).Start) c.squares_of-squares.ensures c.put_judged.ensures
