-- `survey::moving::put_part` meets its contract: each part by its own writer.
-- Assumes nothing.
use mathlib.Core.Path.{ap, ◌∙◌}
use native.Mathlib.Omega.{arith}
use Rattle.sheet.specs.Sheet.{Rooms, rooms}
use Rattle.answer.proofs.PrintLaws.{written_as}
use Rattle.survey.specs.Sets.{set_of}
use Rattle.survey.specs.Moving.{part_of}
use Rattle.survey.specs.declared.moving.Part.{Part}
use Rattle.survey.proofs.MovingLaws.{note_part, bed_part, depth_part, roughness_part, rate_part, note_room, bed_room, depth-room, roughness_room, rate_room}
use Rattle.survey.proofs.moving.put_part.Goals as goal
use Rattle.survey.proofs.moving.put_part.Goals.{Start}

abbrev held : Start → Rooms
held s =
    rooms s.args.marks.now s.args.beds.now s.args.roughness.now s.args.rates.now s.args.depths.now s.args.rain.now
    s.args.inflow.now

pub put_note-requires : goal.put_note-requires
put_note-requires c = record {
  shape_in_range = (c.requires.writable.shape, c.requires.writable.each.marks, c.requires.writable.say.marks_low);
  rain_len = (c.requires.writable.say.rain_long, c.requires.writable.say.inflow_long, note_room c.args.heading (held (goal.at.put_note-requires c).Start) c.requires.writable c.args.out.now c.requires.most_file_in_bounds);
}

pub put_grid-requires : goal.put_grid-requires
put_grid-requires c = record {
  shape_in_range = (c.requires.writable.shape, omega (arith, c.requires.writable.each.marks), omega (arith, c.requires.writable.each.beds));
  side_in_bounds = omega (arith, bed_room c.args.heading (held (goal.at.put_grid-requires c).Start) c.requires.writable c.args.out.now c.requires.most_file_in_bounds);
}

pub put_grid-requires-in-Depth : goal.put_grid-requires-in-Depth
put_grid-requires-in-Depth c = record {
  shape_in_range = (c.requires.writable.shape, omega (arith, c.requires.writable.each.marks), omega (arith, c.requires.writable.each.depths));
  side_in_bounds = omega (arith, depth-room c.args.heading (held (goal.at.put_grid-requires-in-Depth c).Start) c.requires.writable c.args.out.now c.requires.most_file_in_bounds);
}

pub put_grid-requires-in-Roughness : goal.put_grid-requires-in-Roughness
put_grid-requires-in-Roughness c = record {
  shape_in_range = (c.requires.writable.shape, omega (arith, c.requires.writable.each.marks), omega (arith, c.requires.writable.each.roughness));
  side_in_bounds = omega (arith, roughness_room c.args.heading (held (goal.at.put_grid-requires-in-Roughness c).Start) c.requires.writable c.args.out.now c.requires.most_file_in_bounds);
}

pub put_grid-requires-in-Rate : goal.put_grid-requires-in-Rate
put_grid-requires-in-Rate c = record {
  shape_in_range = (c.requires.writable.shape, omega (arith, c.requires.writable.each.marks), omega (arith, c.requires.writable.each.rates));
  side_in_bounds = omega (arith, rate_room c.args.heading (held (goal.at.put_grid-requires-in-Rate c).Start) c.requires.writable c.args.out.now c.requires.most_file_in_bounds);
}

pub returns-in-Note : goal.returns-in-Note
returns-in-Note c =
    written_as
    (ap (λ (k : Part). part_of k (set_of c.args.heading (held (goal.at.returns-in-Note c).Start))) c.in-Note.is ∙ note_part c.args.heading (held (goal.at.returns-in-Note c).Start))
    c.put_note.ensures

pub returns-in-Bed : goal.returns-in-Bed
returns-in-Bed c =
    written_as
    (ap (λ (k : Part). part_of k (set_of c.args.heading (held (goal.at.returns-in-Bed c).Start))) c.in-Bed.is ∙ bed_part c.args.heading (held (goal.at.returns-in-Bed c).Start))
    c.put_grid.ensures

pub returns-in-Depth : goal.returns-in-Depth
returns-in-Depth c =
    written_as
    (ap (λ (k : Part). part_of k (set_of c.args.heading (held (goal.at.returns-in-Depth c).Start))) c.in-Depth.is ∙ depth_part c.args.heading (held (goal.at.returns-in-Depth c).Start))
    c.put_grid-in-Depth.ensures

pub returns-in-Roughness : goal.returns-in-Roughness
returns-in-Roughness c =
    written_as
    (ap (λ (k : Part). part_of k (set_of c.args.heading (held (goal.at.returns-in-Roughness c).Start))) c.in-Roughness.is ∙ roughness_part c.args.heading (held (goal.at.returns-in-Roughness c).Start)) c.put_grid-in-Roughness.ensures

pub returns-in-Rate : goal.returns-in-Rate
returns-in-Rate c =
    written_as
    (ap (λ (k : Part). part_of k (set_of c.args.heading (held (goal.at.returns-in-Rate c).Start))) c.in-Rate.is ∙ rate_part c.args.heading (held (goal.at.returns-in-Rate c).Start))
    c.put_grid-in-Rate.ensures
