-- `moves::length::least_in_row` meets its contract: the columns passed over have no candidate.
-- Assumes nothing.
use mathlib.Core.Path.{◌≡◌, ap, ◌∙◌}
use Prim.Native.Nat.{ℕ, ◌+◌}
use native.Mathlib.Omega.{arith}
use Rattle.grid.specs.Inner.Visits.{Passes}
use Rattle.grid.proofs.SquareLaws.{row-column}
use Rattle.grid.proofs.WalkLaws.{walk_visits, walk_nearer}
use Rattle.ledger.specs.Runs.{Plan, plan}
use Rattle.checks.specs.Given.{Ground}
use Rattle.moves.specs.Inner.Fill.{firm, least_below}
use Rattle.moves.proofs.WetLaws.{dry_clear, below_more, below_idle}
use Rattle.moves.proofs.length.least_in_row.Goals as goal
use Rattle.moves.proofs.length.least_in_row.Goals.{Start}

-- ---- what is known there

abbrev p : Start → Plan
p s = plan s.args.way.shape s.args.marks.now

abbrev o : Start → Ground
o s = firm s.args.way.rules s.args.beds.now s.args.roughness.now

-- a column without water has no candidate
passes :
    (s : Start) (best : ℕ) →
    Passes s.args.wet s.args.way.shape.columns (λ k. best ≡ least_below (p s) (o s) s.args.depths.now (s.args.first + k))
passes s best k h b e =
    e
    ∙ (below_idle (p s) (o s) s.args.depths.now (s.args.first + k) (dry_clear (p s) s.args.depths.now s.args.first s.requires.in_row.1 k h b)
    ∙ ap (least_below (p s) (o s) s.args.depths.now) (let z : s.args.first + k + 1 ≡ s.args.first + (k + 1) = omega arith in z))

-- ---- the answers

pub loop-column-init : goal.loop-column-init
loop-column-init c =
    walk_visits (passes (goal.at.loop-column-init c).Start _) c.requires.meadow_in_range.sited.fine.columns_high 0 (omega arith) c.next_within-column.ensures
    (c.requires.longer_value ∙ ap (least_below (p (goal.at.loop-column-init c).Start) (o (goal.at.loop-column-init c).Start) c.args.depths.now) (let e : c.args.first ≡ c.args.first + 0 = omega arith in e))

pub shorter_by-best-requires : goal.shorter_by-best-requires
shorter_by-best-requires c = (
  c.requires.meadow_in_range,
  row-column c.args.way.shape c.requires.meadow_in_range.sited.fine c.requires.in_row.0 c.loop-column-test.true,
)

pub loop-column-smaller : goal.loop-column-smaller
loop-column-smaller c = walk_nearer c.args.wet c.loop-column-test.true c.next_after-column.ensures

pub loop-column-preserved : goal.loop-column-preserved
loop-column-preserved c =
    let column = c.loop-column.column in
    walk_visits (passes (goal.at.loop-column-preserved c).Start _) c.requires.meadow_in_range.sited.fine.columns_high (column + 1) (omega (arith, c.loop-column-test.true)) c.next_after-column.ensures
    (below_more (p (goal.at.loop-column-preserved c).Start) (o (goal.at.loop-column-preserved c).Start) c.args.depths.now (c.args.first + column) c.loop-column.invariant.held c.shorter_by-best.ensures
    ∙ ap (least_below (p (goal.at.loop-column-preserved c).Start) (o (goal.at.loop-column-preserved c).Start) c.args.depths.now) (let e : c.args.first + column + 1 ≡ c.args.first + (column + 1) = omega arith in e))
