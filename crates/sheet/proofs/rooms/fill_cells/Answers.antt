-- `sheet::rooms::fill_cells` meets its contract: the rooms are filled with the lines passed.
-- Assumes nothing.
use mathlib.Core.Path.{refl}
use native.Mathlib.Omega.{arith}
use Rattle.sheet.proofs.RoomLaws.{filling_none, filling_more, filling_stop, filling_all}
use Rattle.sheet.proofs.rooms.fill_cells.Goals as goal

pub loop-square-init : goal.loop-square-init
loop-square-init c = filling_none _ _ _ _

pub returns-in_default : goal.returns-in_default
returns-in_default c =
    filling_stop _ _ _ c.loop-square.invariant c.in_default.ensures c.args.shape refl (omega (arith, c.squares_of-squares.ensures))

pub loop-square-preserved : goal.loop-square-preserved
loop-square-preserved c =
    let put = c.put_cell.ensures in
    let pre = c.requires.shape_in_bounds in
    let n = c.squares_of-squares.ensures in
    filling_more _ _ _ c.loop-square.invariant c.in-Some.ensures
    (record {
      marks = omega (arith, n, pre.0);
      beds = omega (arith, n, pre.1);
      roughness = omega (arith, n, pre.2);
      rates = omega (arith, n, pre.3);
      depths = omega (arith, n, pre.4);
    })
    (record { marks = put.0; beds = put.1; roughness = put.2; rates = put.3; depths = put.4 })

pub returns : goal.returns
returns c = filling_all _ _ _ c.loop-square.invariant c.args.shape refl c.squares_of-squares.ensures (omega arith)
