-- `settling::spread::send_within` meets its contract: a square that is not on the rim has its four neighbours, each at its place.
-- Assumes nothing.
use Rattle.std.proofs.Common.{◌≡◌, ℕ, ◌+◌, ◌-◌, ◌*◌, ◌<◌, ◌≤◌, List, length, ◌∙◌, arith}
use Rattle.reckon.specs.Ranges.{most_depth}
use Rattle.grid.specs.Squares.{north, east, south, west, squares}
use Rattle.grid.proofs.SquareLaws.{north-within, east-within, south-within, west-within, east_in, west_in, north_is, east_is, south_is, west_is}
use Rattle.ledger.specs.Runs.{Plan, plan}
use Rattle.settling.specs.Inner.Settle.{Grown, SpaceLeft, brings}
use Rattle.settling.proofs.SpreadLaws.{brought, brought_all, space-after}
use Rattle.settling.proofs.spread.send_within.Goals as goal
use Rattle.settling.proofs.spread.send_within.Goals.{After-send_to, After-send_to-2, After-send_to-3, Start}

-- ---- what is known at the start

module _ (s : Start) where
  abbrev p : Plan
  p = plan s.args.shape s.args.marks.now

  abbrev rec : List ℕ
  rec = s.args.rec.now

  abbrev i : ℕ
  i = s.args.square

  long : length s.args.room.now ≡ squares s.args.shape
  long = s.requires.space_left.1 ∙ s.requires.sends_few.0.recorded.marks_long

  -- the four neighbours are on the grid
  to-north : s.args.shape.columns ≤ i
  to-north = north-within s.args.shape i s.requires.sends_few.1

  inside : i < squares s.args.shape
  inside = s.requires.sends_few.0.on.inside

  to-east : i + 1 < squares s.args.shape
  to-east = east_in s.args.shape inside (east-within s.args.shape i s.requires.sends_few.1)

  to-south : i + s.args.shape.columns < squares s.args.shape
  to-south = south-within s.args.shape i s.requires.sends_few.1

  to-west : 1 ≤ i
  to-west = west_in s.args.shape i (west-within s.args.shape i s.requires.sends_few.1)

-- ---- the places, each from the one after it, and the room there

grown1 : (c : After-send_to) → Grown (p (goal.at.After-send_to c).Start) (brings (p (goal.at.After-send_to c).Start) (rec (goal.at.After-send_to c).Start) (i (goal.at.After-send_to c).Start) north) c.args.room.now c.send_to.new.room
grown1 c =
    brought (p (goal.at.After-send_to c).Start) (rec (goal.at.After-send_to c).Start) (i (goal.at.After-send_to c).Start) north (north_is c.args.shape (i (goal.at.After-send_to c).Start) c.requires.sends_few.1) (omega (arith, long (goal.at.After-send_to c).Start, inside (goal.at.After-send_to c).Start)) c.leaving.ensures
    (λ o.
    omega (
      arith,
      c.requires.space_left.0 (i (goal.at.After-send_to c).Start - c.args.shape.columns) (omega (arith, inside (goal.at.After-send_to c).Start)) o,
      c.leaving.ensures,
      c.requires.sends_few.0.few north (omega arith),
    ))
    c.send_to.ensures

-- and the space that it has
space1 : (c : After-send_to) → SpaceLeft (p (goal.at.After-send_to c).Start) (3 * most_depth) c.send_to.new.room
space1 c =
    space-after (p (goal.at.After-send_to c).Start) (rec (goal.at.After-send_to c).Start) (i (goal.at.After-send_to c).Start) north (3 * most_depth) c.requires.space_left.0 (grown1 c) (c.requires.sends_few.0.few north (omega arith))

grown2 :
    (c : After-send_to-2) → Grown (p (goal.at.After-send_to-2 c).Start) (brings (p (goal.at.After-send_to-2 c).Start) (rec (goal.at.After-send_to-2 c).Start) (i (goal.at.After-send_to-2 c).Start) east) c.send_to.new.room c.send_to-2.new.room
grown2 c =
    brought (p (goal.at.After-send_to-2 c).Start) (rec (goal.at.After-send_to-2 c).Start) (i (goal.at.After-send_to-2 c).Start) east (east_is c.args.shape (i (goal.at.After-send_to-2 c).Start) c.requires.sends_few.1) (omega (arith, long (goal.at.After-send_to-2 c).Start, (grown1 (goal.at.After-send_to-2 c).After-send_to).long, to-east (goal.at.After-send_to-2 c).Start))
    c.leaving-2.ensures
    (λ o. omega (arith, space1 (goal.at.After-send_to-2 c).After-send_to (i (goal.at.After-send_to-2 c).Start + 1) (to-east (goal.at.After-send_to-2 c).Start) o, c.leaving-2.ensures, c.requires.sends_few.0.few east (omega arith)))
    c.send_to-2.ensures

space2 : (c : After-send_to-2) → SpaceLeft (p (goal.at.After-send_to-2 c).Start) (2 * most_depth) c.send_to-2.new.room
space2 c =
    space-after (p (goal.at.After-send_to-2 c).Start) (rec (goal.at.After-send_to-2 c).Start) (i (goal.at.After-send_to-2 c).Start) east (2 * most_depth) (space1 (goal.at.After-send_to-2 c).After-send_to) (grown2 c) (c.requires.sends_few.0.few east (omega arith))

grown3 :
    (c : After-send_to-3) → Grown (p (goal.at.After-send_to-3 c).Start) (brings (p (goal.at.After-send_to-3 c).Start) (rec (goal.at.After-send_to-3 c).Start) (i (goal.at.After-send_to-3 c).Start) south) c.send_to-2.new.room c.send_to-3.new.room
grown3 c =
    brought (p (goal.at.After-send_to-3 c).Start) (rec (goal.at.After-send_to-3 c).Start) (i (goal.at.After-send_to-3 c).Start) south (south_is c.args.shape (i (goal.at.After-send_to-3 c).Start) c.requires.sends_few.1)
    (omega (arith, long (goal.at.After-send_to-3 c).Start, (grown1 (goal.at.After-send_to-3 c).After-send_to).long, (grown2 (goal.at.After-send_to-3 c).After-send_to-2).long, to-south (goal.at.After-send_to-3 c).Start)) c.leaving-3.ensures
    (λ o. omega (arith, space2 (goal.at.After-send_to-3 c).After-send_to-2 (i (goal.at.After-send_to-3 c).Start + c.args.shape.columns) (to-south (goal.at.After-send_to-3 c).Start) o, c.leaving-3.ensures, c.requires.sends_few.0.few south (omega arith)))
    c.send_to-3.ensures

space3 : (c : After-send_to-3) → SpaceLeft (p (goal.at.After-send_to-3 c).Start) most_depth c.send_to-3.new.room
space3 c =
    space-after (p (goal.at.After-send_to-3 c).Start) (rec (goal.at.After-send_to-3 c).Start) (i (goal.at.After-send_to-3 c).Start) south most_depth (space2 (goal.at.After-send_to-3 c).After-send_to-2) (grown3 c) (c.requires.sends_few.0.few south (omega arith))

pub overflow_sub-square : goal.overflow_sub-square
overflow_sub-square c = omega (arith, to-north (goal.at.overflow_sub-square c).Start)

pub send_to-requires-2 : goal.send_to-requires-2
send_to-requires-2 c = (
  omega (arith, to-east (goal.at.send_to-requires-2 c).Start, long (goal.at.send_to-requires-2 c).Start, (grown1 (goal.at.send_to-requires-2 c).After-send_to).long),
  omega (arith, c.leaving-2.ensures, c.requires.sends_few.0.few east (omega arith)),
)

pub send_to-requires-3 : goal.send_to-requires-3
send_to-requires-3 c = (
  omega (arith, to-south (goal.at.send_to-requires-3 c).Start, long (goal.at.send_to-requires-3 c).Start, (grown1 (goal.at.send_to-requires-3 c).After-send_to).long, (grown2 (goal.at.send_to-requires-3 c).After-send_to-2).long),
  omega (arith, c.leaving-3.ensures, c.requires.sends_few.0.few south (omega arith)),
)

pub overflow_sub-square-2 : goal.overflow_sub-square-2
overflow_sub-square-2 c = omega (arith, to-west (goal.at.overflow_sub-square-2 c).Start)

pub returns : goal.returns
returns c =
    brought_all (p (goal.at.returns c).Start) (rec (goal.at.returns c).Start) (i (goal.at.returns c).Start) (grown1 (goal.at.returns c).After-send_to) (grown2 (goal.at.returns c).After-send_to-2) (grown3 (goal.at.returns c).After-send_to-3)
    (brought (p (goal.at.returns c).Start) (rec (goal.at.returns c).Start) (i (goal.at.returns c).Start) west (west_is c.args.shape (i (goal.at.returns c).Start) c.requires.sends_few.1)
    (omega (arith, inside (goal.at.returns c).Start, long (goal.at.returns c).Start, (grown1 (goal.at.returns c).After-send_to).long, (grown2 (goal.at.returns c).After-send_to-2).long, (grown3 (goal.at.returns c).After-send_to-3).long)) c.leaving-4.ensures
    (λ o. omega (arith, space3 (goal.at.returns c).After-send_to-3 (i (goal.at.returns c).Start - 1) (omega (arith, inside (goal.at.returns c).Start)) o, c.leaving-4.ensures, c.requires.sends_few.0.few west (omega arith)))
    c.send_to-4.ensures)
