use native.Mathlib.Omega.{arith}
use Rattle.desks.proofs.RoomLaws.{part_long}
use Rattle.desks.proofs.SheetLaid.{laid_shows, laid-water, laid_whole}
use Rattle.desks.proofs.command.lay_sheet.Goals as goal

-- src/command.rt:68:33
pub slice_bounds-water_on-end : goal.slice_bounds-water_on-end
slice_bounds-water_on-end c = part_long _ c.args.marks.now (omega (arith, c.requires.1, c.squares_of-squares.ensures, c.requires.0.few))

-- src/command.rt:68:52
pub slice_bounds-water_on-end-2 : goal.slice_bounds-water_on-end-2
slice_bounds-water_on-end-2 c = part_long _ c.args.depths.now (omega (arith, c.requires.2, c.squares_of-squares.ensures, c.requires.0.few))

-- src/command.rt:68:9
pub water_on-start-requires : goal.water_on-start-requires
water_on-start-requires c =
    let a = c.args in
    laid-water a.heading c.squares_of-squares.ensures c.requires.0 a.marks.now a.depths.now c.requires.1 c.requires.2

-- src/command.rt:77:9
pub slice_bounds-put_state-end : goal.slice_bounds-put_state-end
slice_bounds-put_state-end c = part_long _ c.args.marks.now (omega (arith, c.requires.1, c.squares_of-squares.ensures, c.requires.0.few))

-- src/command.rt:78:9
pub slice_bounds-put_state-end-2 : goal.slice_bounds-put_state-end-2
slice_bounds-put_state-end-2 c = part_long _ c.args.depths.now (omega (arith, c.requires.2, c.squares_of-squares.ensures, c.requires.0.few))

-- src/command.rt:72:9
pub put_state-at-requires : goal.put_state-at-requires
put_state-at-requires c =
    let a = c.args in
    laid_shows a.heading c.squares_of-squares.ensures c.requires.0 a.marks.now a.depths.now c.requires.1 c.requires.2 c.requires.3

-- src/command.rt:80:9
pub put_ending-length-requires : goal.put_ending-length-requires
put_ending-length-requires c =
    omega (
      arith,
      c.put_state-at.ensures.short,
      c.put_state-at.ensures.wrote.next,
      c.put_state-at.auto.out,
      c.requires.3,
    )

-- src/command.rt:81:5
pub fresh_desk-requires : goal.fresh_desk-requires
fresh_desk-requires c = c.requires.0

-- src/command.rt:55:1
pub shape_of-lasts : goal.shape_of-lasts
shape_of-lasts c = c.clear.auto.room

-- src/command.rt:55:1
pub returns : goal.returns
returns c =
    let a = c.args in
    laid_whole a.heading a.marks.now a.depths.now c.squares_of-squares.ensures c.water_on-start.ensures c.fresh_desk-fresh.ensures
    c.requires.3 c.put_state-at.ensures c.put_ending-length.ensures c.fresh_desk.ensures c.clear.ensures
