use mathlib.Core.Path.{sym, ◌∙◌}
use Rattle.desks.proofs.OtherLaws.{room_part}
use Rattle.desks.proofs.lines.arrows_line.Goals as goal

-- src/lines.rt:385:9
pub slice_bounds-arrows_in-end : goal.slice_bounds-arrows_in-end
slice_bounds-arrows_in-end c = c.requires.marks_long ∙ sym (room_part c.requires c.no_kinds-kinds.result c.no_kinds-kinds.ensures)

-- src/lines.rt:386:9
pub slice_bounds-arrows_in-end-2 : goal.slice_bounds-arrows_in-end-2
slice_bounds-arrows_in-end-2 c =
    c.requires.marks_long
    ∙ sym (room_part c.requires c.no_speeds-east.result c.no_speeds-east.ensures)

-- src/lines.rt:387:9
pub slice_bounds-arrows_in-end-3 : goal.slice_bounds-arrows_in-end-3
slice_bounds-arrows_in-end-3 c =
    c.requires.marks_long
    ∙ sym (room_part c.requires c.no_speeds-north.result c.no_speeds-north.ensures)

-- src/lines.rt:380:5
pub arrows_in-requires : goal.arrows_in-requires
arrows_in-requires c = (
  c.requires,
  room_part c.requires c.no_kinds-kinds.result c.no_kinds-kinds.ensures,
  room_part c.requires c.no_speeds-east.result c.no_speeds-east.ensures,
  room_part c.requires c.no_speeds-north.result c.no_speeds-north.ensures,
)
