-- `moves::drops::drops_within` meets its contract: a square that is not on the rim has its four neighbours, each at its place.
-- Assumes nothing.
use Prim.Native.Nat.{◌+◌, ◌≤◌, ◌<◌}
use native.Mathlib.Omega.{arith}
use borrow.Author.Rules.{rules}
use Rattle.grid.specs.Squares.{squares}
use Rattle.grid.proofs.SquareLaws.{north-within, east-within, south-within, west-within, east_in, west_in, north_is, east_is, south_is, west_is}
use Rattle.ledger.specs.Runs.{plan}
use Rattle.moves.proofs.DropLaws.{drop_there, drops_made}
use Rattle.moves.proofs.drops.drops_within.Goals as goal
use Rattle.moves.proofs.drops.drops_within.Goals.{Start}

-- ---- where the four neighbours lie

module _ (s : Start) where
  abbrev north-in : s.args.shape.columns ≤ s.args.square
  north-in = north-within s.args.shape s.args.square s.requires.ground_lent.2

  abbrev east-inside : s.args.square + 1 < squares s.args.shape
  east-inside = east_in s.args.shape s.requires.ground_lent.1 (east-within s.args.shape s.args.square s.requires.ground_lent.2)

  abbrev south-in : s.args.square + s.args.shape.columns < squares s.args.shape
  south-in = south-within s.args.shape s.args.square s.requires.ground_lent.2

  abbrev west-inside : 1 ≤ s.args.square
  west-inside = west_in s.args.shape s.args.square (west-within s.args.shape s.args.square s.requires.ground_lent.2)

pub overflow_sub-square : goal.overflow_sub-square
overflow_sub-square c = omega (arith, north-in (goal.at.overflow_sub-square c).Start)

pub drop_beside-requires-2 : goal.drop_beside-requires-2
drop_beside-requires-2 c = omega (arith, east-inside (goal.at.drop_beside-requires-2 c).Start, c.requires.ground_lent.0.marks_long, c.requires.ground_lent.0.beds_long, c.requires.ground_lent.0.depths_long)

pub drop_beside-requires-3 : goal.drop_beside-requires-3
drop_beside-requires-3 c = omega (arith, south-in (goal.at.drop_beside-requires-3 c).Start, c.requires.ground_lent.0.marks_long, c.requires.ground_lent.0.beds_long, c.requires.ground_lent.0.depths_long)

pub overflow_sub-square-2 : goal.overflow_sub-square-2
overflow_sub-square-2 c = omega (arith, west-inside (goal.at.overflow_sub-square-2 c).Start)

pub returns : goal.returns
returns c rules =
    let p = plan c.args.shape c.args.marks.now in
    let beds = c.args.beds.now in
    let depths = c.args.depths.now in
    let i = c.args.square in
    let own = c.requires.own_value in
    let off = c.requires.ground_lent.2 in
    drops_made p rules beds depths i
    (drop_there p rules beds depths i 0 (north_is c.args.shape i off) own (omega (arith, north-in (goal.at.returns c).Start, c.requires.ground_lent.1)) c.drop_beside.ensures)
    (drop_there p rules beds depths i 1 (east_is c.args.shape i off) own (east-inside (goal.at.returns c).Start) c.drop_beside-2.ensures)
    (drop_there p rules beds depths i 2 (south_is c.args.shape i off) own (south-in (goal.at.returns c).Start) c.drop_beside-3.ensures)
    (drop_there p rules beds depths i 3 (west_is c.args.shape i off) own (omega (arith, c.requires.ground_lent.1)) c.drop_beside-4.ensures)
