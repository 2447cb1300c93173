-- `raster::writing::put_entries` meets its contract: the squares so far stand at the place.
-- Assumes nothing.
use mathlib.Core.List.{List}
use Prim.Native.Nat.{ℕ}
use native.Mathlib.Omega.{arith}
use Rattle.grid.specs.Squares.{squares}
use Rattle.text.proofs.JoinedLaws.{none_written, lines_length, line_fits, line_written, lines_whole}
use Rattle.raster.specs.Raster.{entry_text}
use Rattle.raster.proofs.writing.put_entries.Goals as goal
use Rattle.raster.proofs.writing.put_entries.Goals.{Start}

abbrev texts : Start → ℕ → List ℕ
texts s = entry_text s.args.scale s.args.shape.columns s.args.marks.now s.args.values.now

pub squares_of-squares-requires : goal.squares_of-squares-requires
squares_of-squares-requires c = c.requires.shape_in_range.0

pub loop-square-init : goal.loop-square-init
loop-square-init c = none_written _ _ _

pub put_entry-next-requires : goal.put_entry-next-requires
put_entry-next-requires c =
    let n = c.squares_of-squares.ensures in record {
      columns_nonzero = (
        c.requires.shape_in_range.0.columns_low,
        omega (arith, n, c.requires.shape_in_range.0.few),
        omega (arith, n, c.requires.shape_in_range.1),
        omega (arith, n, c.requires.shape_in_range.2),
      );
      square_in_bounds =
          line_fits (texts (goal.at.put_entry-next-requires c).Start) (squares c.args.shape) c.args.at c.args.room.now
          c.requires.values_in_bounds c.loop-square.square c.loop-square.invariant (omega (arith, n));
    }

pub loop-square-preserved : goal.loop-square-preserved
loop-square-preserved c =
    line_written (texts (goal.at.loop-square-preserved c).Start) (squares c.args.shape) c.args.at
    c.args.room.now c.requires.values_in_bounds c.loop-square.square c.loop-square.invariant
    (omega (arith, c.squares_of-squares.ensures)) c.put_entry-next.ensures

pub shape_of-room : goal.shape_of-room
shape_of-room c =
    lines_length (texts (goal.at.shape_of-room c).Start) (squares c.args.shape) c.args.at c.args.room.now
    c.requires.values_in_bounds c.loop-square.square c.loop-square.invariant (omega (arith, c.squares_of-squares.ensures))

pub returns : goal.returns
returns c =
    lines_whole (texts (goal.at.returns c).Start) (omega (arith, c.squares_of-squares.ensures)) c.loop-square.invariant
