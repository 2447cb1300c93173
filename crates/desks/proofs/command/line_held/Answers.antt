use mathlib.Core.Path.{sym, ◌∙◌}
use native.Mathlib.Omega.{arith}
use Rattle.desks.proofs.RoomLaws.{part_long, ready_fine, lends, held_line}
use Rattle.desks.proofs.command.line_held.Goals as goal

-- src/command.rt:138:9
pub sizes_of-sizes-requires : goal.sizes_of-sizes-requires
sizes_of-sizes-requires c = ready_fine c.args.desk c.requires.0

-- src/command.rt:147:9
pub slice_bounds-order_line-end : goal.slice_bounds-order_line-end
slice_bounds-order_line-end c = part_long _ c.args.marks.now (omega (arith, c.requires.1.marks_long, c.sizes_of-sizes.ensures.squares_fit))

-- src/command.rt:148:9
pub slice_bounds-order_line-end-2 : goal.slice_bounds-order_line-end-2
slice_bounds-order_line-end-2 c = part_long _ c.args.inflow.now (omega (arith, c.requires.1.inflow_long, c.sizes_of-sizes.ensures.inflow_fits))

-- src/command.rt:149:9
pub slice_bounds-order_line-end-3 : goal.slice_bounds-order_line-end-3
slice_bounds-order_line-end-3 c = omega (arith, c.requires.1.depths_long, c.sizes_of-sizes.ensures.squares_fit)

-- src/command.rt:149:9
pub slice_bounds-order_line-end-4 : goal.slice_bounds-order_line-end-4
slice_bounds-order_line-end-4 c = part_long _ c.args.depths.now (omega (arith, c.requires.1.depths_long, c.sizes_of-sizes.ensures.squares_fit))

-- src/command.rt:150:9
pub slice_bounds-order_line-end-5 : goal.slice_bounds-order_line-end-5
slice_bounds-order_line-end-5 c = omega (arith, c.requires.1.lasts_long, c.sizes_of-sizes.ensures.squares_fit)

-- src/command.rt:150:9
pub slice_bounds-order_line-end-6 : goal.slice_bounds-order_line-end-6
slice_bounds-order_line-end-6 c =
    part_long _ c.args.lasts.now
    (omega (arith, c.requires.1.lasts_long, c.sizes_of-sizes.ensures.squares_fit))

-- src/command.rt:151:9
pub slice_bounds-order_line-end-7 : goal.slice_bounds-order_line-end-7
slice_bounds-order_line-end-7 c = part_long _ c.args.records.now (omega (arith, c.requires.1.records_long, c.sizes_of-sizes.ensures.records_fit))

-- src/command.rt:152:9
pub slice_bounds-order_line-end-8 : goal.slice_bounds-order_line-end-8
slice_bounds-order_line-end-8 c = part_long _ c.args.began.now (omega (arith, c.requires.1.began_long, c.sizes_of-sizes.ensures.began_fits))

-- src/command.rt:143:5
pub order_line-requires : goal.order_line-requires
order_line-requires c = lends c.args.desk.heading c.sizes_of-sizes.ensures c.requires.1

-- src/command.rt:123:1
pub returns : goal.returns
returns c =
    let a = c.args in
    λ beds roughness rates rain.
    held_line a.desk c.sizes_of-sizes.ensures a.marks.now beds roughness rates a.depths.now rain a.inflow.now a.lasts.now
    a.records.now a.began.now a.text.now a.order
    (c.order_line.auto.depths
    ∙ sym (part_long _ a.depths.now (omega (arith, c.requires.1.depths_long, c.sizes_of-sizes.ensures.squares_fit))))
    (c.order_line.auto.lasts
    ∙ sym (part_long _ a.lasts.now (omega (arith, c.requires.1.lasts_long, c.sizes_of-sizes.ensures.squares_fit))))
    (omega (arith, c.requires.1.records_long, c.sizes_of-sizes.ensures.records_fit))
    (omega (arith, c.requires.1.began_long, c.sizes_of-sizes.ensures.began_fits)) c.order_line.ensures
