-- `settling::spread::send_by_sides` meets its contract: side after side the room has space for what is sent.
-- Assumes nothing.
use Rattle.std.proofs.Common.{ℕ, ◌*◌, ◌<◌, List, get_or, ◌∙◌, arith}
use Rattle.reckon.specs.Ranges.{most_depth}
use Rattle.grid.specs.Squares.{north, east, south, west}
use Rattle.ledger.specs.Runs.{Plan, plan}
use Rattle.ledger.specs.Flows.{off_side}
use Rattle.ledger.specs.Record.{leaves_in}
use Rattle.settling.specs.Inner.Settle.{SpaceLeft}
use Rattle.ledger.proofs.FlowLaws.{four-sides, off_open, off_side_small}
use Rattle.settling.proofs.SpreadLaws.{brought_all, space-after}
use Rattle.settling.proofs.spread.send_by_sides.Goals as goal
use Rattle.settling.proofs.spread.send_by_sides.Goals.{After-send_side-east, After-send_side-north, After-send_side-south, After-slice_known-5-1}

-- ---- what is known there

module _ (c : After-send_side-north) where
  abbrev p : Plan
  p = plan c.args.shape c.args.marks.now

  abbrev rec : List ℕ
  rec = c.args.rec.now

  abbrev i : ℕ
  i = c.args.square

  words : (k : ℕ) → get_or rec k 0 < 4294967296
  words k = (c.type_inv.rec k).fits

  space1 : SpaceLeft p (3 * most_depth) c.send_side-north.new.room
  space1 = space-after p rec i north (3 * most_depth) c.requires.space_left.0 c.send_side-north.ensures.1 (c.requires.sends_few.0.few north (omega arith))

space2 : (c : After-send_side-east) → SpaceLeft (p (goal.at.After-send_side-east c).After-send_side-north) (2 * most_depth) c.send_side-east.new.room
space2 c =
    space-after (p (goal.at.After-send_side-east c).After-send_side-north) (rec (goal.at.After-send_side-east c).After-send_side-north) (i (goal.at.After-send_side-east c).After-send_side-north) east (2 * most_depth) (space1 (goal.at.After-send_side-east c).After-send_side-north) c.send_side-east.ensures.1 (c.requires.sends_few.0.few east (omega arith))

space3 : (c : After-send_side-south) → SpaceLeft (p (goal.at.After-send_side-south c).After-send_side-north) most_depth c.send_side-south.new.room
space3 c =
    space-after (p (goal.at.After-send_side-south c).After-send_side-north) (rec (goal.at.After-send_side-south c).After-send_side-north) (i (goal.at.After-send_side-south c).After-send_side-north) south most_depth (space2 (goal.at.After-send_side-south c).After-send_side-east) c.send_side-south.ensures.1 (c.requires.sends_few.0.few south (omega arith))

pub send_side-east-requires : goal.send_side-east-requires
send_side-east-requires c = record {
  sends_few = (c.requires.sends_few.0, omega arith);
  space_left = ((λ j h o. omega (arith, space1 (goal.at.send_side-east-requires c).After-send_side-north j h o)), c.send_side-north.ensures.1.long ∙ c.requires.space_left.1);
}

pub send_side-south-requires : goal.send_side-south-requires
send_side-south-requires c = record {
  sends_few = (c.requires.sends_few.0, omega arith);
  space_left = ((λ j h o. omega (arith, space2 (goal.at.send_side-south-requires c).After-send_side-east j h o)), c.send_side-east.ensures.1.long ∙ (c.send_side-north.ensures.1.long ∙ c.requires.space_left.1));
}

pub send_side-west-requires : goal.send_side-west-requires
send_side-west-requires c = record {
  sends_few = (c.requires.sends_few.0, omega arith);
  space_left = (
    space3 (goal.at.send_side-west-requires c).After-send_side-south,
    c.send_side-south.ensures.1.long ∙ (c.send_side-east.ensures.1.long ∙ (c.send_side-north.ensures.1.long ∙ c.requires.space_left.1)),
  );
}

-- what leaves the grid through each side is a word
module _ (c : After-slice_known-5-1) where
  small : (side : ℕ) → off_side (p (goal.at.After-slice_known-5-1 c).After-send_side-north) (leaves_in (rec (goal.at.After-slice_known-5-1 c).After-send_side-north)) (i (goal.at.After-slice_known-5-1 c).After-send_side-north) side < 4294967296
  small side = omega (arith, off_side_small (rec (goal.at.After-slice_known-5-1 c).After-send_side-north) (words (goal.at.After-slice_known-5-1 c).After-send_side-north) (p (goal.at.After-slice_known-5-1 c).After-send_side-north) (i (goal.at.After-slice_known-5-1 c).After-send_side-north) side)

pub overflow_add-result : goal.overflow_add-result
overflow_add-result c = omega (arith, c.send_side-north.ensures.0, c.send_side-east.ensures.0, small c north, small c east)

pub overflow_add-result-2 : goal.overflow_add-result-2
overflow_add-result-2 c =
    omega (
      arith,
      c.send_side-north.ensures.0,
      c.send_side-east.ensures.0,
      c.send_side-south.ensures.0,
      small c north,
      small c east,
      small c south,
    )

pub overflow_add-result-3 : goal.overflow_add-result-3
overflow_add-result-3 c =
    omega (
      arith,
      c.send_side-north.ensures.0,
      c.send_side-east.ensures.0,
      c.send_side-south.ensures.0,
      c.send_side-west.ensures.0,
      small c north,
      small c east,
      small c south,
      small c west,
    )

pub returns : goal.returns
returns c = (
  four-sides (off_side (p (goal.at.returns c).After-send_side-north) (leaves_in (rec (goal.at.returns c).After-send_side-north)) (i (goal.at.returns c).After-send_side-north)) c.send_side-north.ensures.0 c.send_side-east.ensures.0 c.send_side-south.ensures.0
      c.send_side-west.ensures.0
      ∙ off_open (p (goal.at.returns c).After-send_side-north) (i (goal.at.returns c).After-send_side-north) (leaves_in (rec (goal.at.returns c).After-send_side-north)) c.requires.sends_few.1,
  brought_all (p (goal.at.returns c).After-send_side-north) (rec (goal.at.returns c).After-send_side-north) (i (goal.at.returns c).After-send_side-north) c.send_side-north.ensures.1 c.send_side-east.ensures.1 c.send_side-south.ensures.1 c.send_side-west.ensures.1,
)
