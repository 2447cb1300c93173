-- `raster::writing::put_grid` meets its contract: the header, and then the squares.
-- Assumes nothing.
use Prim.Native.Nat.{◌+◌, ◌≤◌}
use native.Mathlib.Omega.{arith}
use lib.ListN.{length, length-append}
use Rattle.reckon.specs.Lists.{joined}
use Rattle.grid.specs.Squares.{squares}
use Rattle.text.proofs.WritingLaws.{wrote_both}
use Rattle.raster.specs.Raster.{head_text, entry_text, grid_text}
use Rattle.raster.proofs.writing.put_grid.Goals as goal
use Rattle.raster.proofs.writing.put_grid.Goals.{Start}

-- both fit
fits : (s : Start) → s.args.at + length (head_text s.args.shape s.args.side) + length
    (joined (squares s.args.shape) (entry_text s.args.scale s.args.shape.columns s.args.marks.now s.args.values.now)) ≤ length
    s.args.room.now
unfolding grid_text
fits s =
    let a = s.args in
    omega (
      arith,
      s.requires.side_in_bounds,
      length-append (head_text a.shape a.side)
          (joined (squares a.shape) (entry_text a.scale a.shape.columns a.marks.now a.values.now)),
    )

pub put_head-next-requires : goal.put_head-next-requires
put_head-next-requires c = omega (arith, fits (goal.at.put_head-next-requires c).Start)

pub put_entries-requires : goal.put_entries-requires
put_entries-requires c = record {
  shape_in_range = c.requires.shape_in_range;
  values_in_bounds = omega (arith, fits (goal.at.put_entries-requires c).Start, c.put_head-next.ensures.next, c.put_head-next.auto.room);
}

pub returns : goal.returns
unfolding grid_text
returns c =
    wrote_both (fits (goal.at.returns c).Start)
    c.put_head-next.ensures c.put_entries.ensures
