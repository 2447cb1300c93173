-- `moves::length::least_of_all` meets its contract: the least of the squares passed.
-- Assumes nothing.
use mathlib.Core.Path.{sym}
use native.Mathlib.Nat.{zero-mod}
use native.Mathlib.Omega.{arith}
use Rattle.grid.proofs.SquareLaws.{carried}
use Rattle.ledger.specs.Runs.{Plan, plan}
use Rattle.checks.specs.Given.{Ground}
use Rattle.moves.specs.Inner.Fill.{firm}
use Rattle.moves.proofs.LengthLaws.{least_begin, least_more, least_all}
use Rattle.moves.proofs.length.least_of_all.Goals as goal
use Rattle.moves.proofs.length.least_of_all.Goals.{Start}

-- ---- what is known there

abbrev p : Start → Plan
p s = plan s.args.way.shape s.args.marks.now

abbrev o : Start → Ground
o s = firm s.args.way.rules s.args.beds.now s.args.roughness.now

-- ---- the answers

pub loop-square-init : goal.loop-square-init
loop-square-init c = (omega arith, sym (zero-mod c.args.way.shape.columns), least_begin (p (goal.at.loop-square-init c).Start) (o (goal.at.loop-square-init c).Start) c.args.depths.now c.args.way.rules.longest)

pub loop-square-preserved : goal.loop-square-preserved
loop-square-preserved c = (
  omega arith,
  carried c.args.way.shape c.loop-square.square c.loop-square.invariant.1 c.next_column-column.ensures,
  least_more (p (goal.at.loop-square-preserved c).Start) (o (goal.at.loop-square-preserved c).Start) c.args.depths.now c.args.way.rules.longest c.loop-square.square c.loop-square.invariant.2
      c.shorter_by-best.ensures,
)

pub returns : goal.returns
returns c = least_all (p (goal.at.returns c).Start) (o (goal.at.returns c).Start) c.args.depths.now c.args.way.rules.longest c.loop-square.invariant.2 (omega arith)
