-- `sight::arrows::seen` meets its contract: the first case that applies is the answer.
-- Assumes nothing.
use mathlib.Core.Path.{◌≡◌, sym, ◌∙◌}
use mathlib.Core.Bool.{false}
use Prim.Native.Nat.{ℕ, ◌<◌}
use native.Mathlib.Omega.{arith}
use lib.Dec.{lit<}
use Rattle.grid.specs.Squares.{OnSquare, sides}
use Rattle.grid.specs.Marks.{closed}
use Rattle.ledger.specs.Runs.{Plan, plan}
use Rattle.sight.specs.declared.speeds.Through.{Through}
use Rattle.sight.specs.Inner.Arrows.{SightLent, Sided, Ranged}
use Rattle.sight.proofs.ArrowLaws.{ranged, seen-closed, seen-dry, seen_still, seen_moving}
use Rattle.sight.proofs.arrows.seen.Goals as goal
use Rattle.sight.proofs.arrows.seen.Goals.{After-lasted, Else-is_closed}

-- ---- the places, each from the one after it

-- ---- what is known there

module _ (c : Else-is_closed) where
  abbrev p : Plan
  p = plan c.args.shape c.args.marks.now

  not_closed : closed p.marks c.args.square ≡ false
  not_closed = sym c.is_closed.ensures ∙ c.if-is_closed.false

  -- what each side asks
  side-asked :
      {side : ℕ} → side < sides →
      SightLent p c.args.depths.now c.args.rec.now × ((OnSquare p.shape c.args.square c.args.column × (closed p.marks c.args.square ≡ false)) × (side < sides))
  side-asked h = (c.requires.sight_lent, ((c.requires.timed.1, not_closed), h))

-- what went through each side of a wet square is in range
module _ (c : After-lasted) where
  side-ranged :
      (side : ℕ) {t : Through} → Sided (p (goal.at.After-lasted c).Else-is_closed) c.args.depths.now c.args.rec.now c.args.square side t →
      Ranged c.args.square_side c.lasted.result t
  side-ranged side h = ranged c.requires.timed.0 c.lasted.ensures c.number.ensures c.if-number-eq0.false h

pub returns-then-is_closed : goal.returns-then-is_closed
returns-then-is_closed c = seen-closed _ _ _ _ _ (sym c.is_closed.ensures ∙ c.if-is_closed.true)

pub returns-then-number-eq0 : goal.returns-then-number-eq0
returns-then-number-eq0 c = seen-dry _ _ _ _ _ (not_closed (goal.at.returns-then-number-eq0 c).Else-is_closed) c.number.ensures c.if-number-eq0.true

pub through_side-north-requires : goal.through_side-north-requires
through_side-north-requires c = let h = side-asked (goal.at.through_side-north-requires c).Else-is_closed (lit< tt) in record { sight_lent = h.0; on_square = h.1.0; side_lt_sides = h.1.1 }

pub through_side-east-requires : goal.through_side-east-requires
through_side-east-requires c = let h = side-asked (goal.at.through_side-east-requires c).Else-is_closed (lit< tt) in record { sight_lent = h.0; on_square = h.1.0; side_lt_sides = h.1.1 }

pub through_side-south-requires : goal.through_side-south-requires
through_side-south-requires c = let h = side-asked (goal.at.through_side-south-requires c).Else-is_closed (lit< tt) in record { sight_lent = h.0; on_square = h.1.0; side_lt_sides = h.1.1 }

pub through_side-west-requires : goal.through_side-west-requires
through_side-west-requires c = let h = side-asked (goal.at.through_side-west-requires c).Else-is_closed (lit< tt) in record { sight_lent = h.0; on_square = h.1.0; side_lt_sides = h.1.1 }

pub returns-then-are_still : goal.returns-then-are_still
returns-then-are_still c =
    seen_still _ _ _ _ _ (not_closed (goal.at.returns-then-are_still c).Else-is_closed) c.number.ensures c.if-number-eq0.false c.through_side-north.ensures
    c.through_side-east.ensures c.through_side-south.ensures c.through_side-west.ensures c.are_still.ensures c.if-are_still.true

pub lasted-requires : goal.lasted-requires
lasted-requires c = omega (arith, c.requires.sight_lent.recorded.record_long)

pub arrow_through-requires : goal.arrow_through-requires
arrow_through-requires c = record {
  ranged = side-ranged c _ c.through_side-north.ensures;
  ranged_2 = side-ranged c _ c.through_side-east.ensures;
  ranged_3 = side-ranged c _ c.through_side-south.ensures;
  ranged_4 = side-ranged c _ c.through_side-west.ensures;
}

pub returns : goal.returns
returns c =
    seen_moving _ _ _ _ _ (not_closed (goal.at.returns c).Else-is_closed) c.number.ensures c.if-number-eq0.false c.through_side-north.ensures
    c.through_side-east.ensures c.through_side-south.ensures c.through_side-west.ensures c.are_still.ensures
    c.if-are_still.false c.lasted.ensures c.arrow_through.ensures
