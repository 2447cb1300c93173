-- `survey::texts::put_cells` meets its contract: the lines so far stand at the place.
-- Assumes nothing.
use native.Mathlib.Omega.{arith}
use Rattle.text.proofs.JoinedLaws.{none_written, line_fits, line_written}
use Rattle.survey.proofs.texts.put_cells.Goals as goal

pub loop-square-init : goal.loop-square-init
loop-square-init c = none_written _ _ _

pub put_cell-next-requires : goal.put_cell-next-requires
put_cell-next-requires c =
    let each = c.requires.shape_in_range.2 in record {
      columns_nonzero = (
        c.requires.shape_in_range.0.columns_low,
        omega (arith, c.squares_of-squares.ensures, each.marks),
        omega (arith, c.squares_of-squares.ensures, each.beds),
        omega (arith, c.squares_of-squares.ensures, each.roughness),
        omega (arith, c.squares_of-squares.ensures, each.rates),
        omega (arith, c.squares_of-squares.ensures, each.depths),
      );
      square_bound = (
        c.requires.shape_in_range.1 c.loop-square.square (omega (arith, c.squares_of-squares.ensures)),
        line_fits _ _ _ _ c.requires.depths_in_bounds _ c.loop-square.invariant (omega (arith, c.squares_of-squares.ensures)),
      );
    }

pub loop-square-preserved : goal.loop-square-preserved
loop-square-preserved c =
    line_written _ _ _ _ c.requires.depths_in_bounds _ c.loop-square.invariant (omega (arith, c.squares_of-squares.ensures))
    c.put_cell-next.ensures
