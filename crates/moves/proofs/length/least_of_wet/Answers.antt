-- `moves::length::least_of_wet` meets its contract: row after row, the least of the squares passed.
-- Assumes nothing.
use mathlib.Core.Path.{refl}
use Rattle.grid.proofs.SquareLaws.{rows_begin, row_here, rows_end}
use Rattle.ledger.specs.Runs.{Plan, plan}
use Rattle.checks.specs.Given.{Ground}
use Rattle.moves.specs.Inner.Fill.{firm}
use Rattle.moves.proofs.WetLaws.{below_none, below_all}
use Rattle.moves.proofs.length.least_of_wet.Goals as goal
use Rattle.moves.proofs.length.least_of_wet.Goals.{Start}

-- ---- what is known there

abbrev p : Start → Plan
p s = plan s.args.way.shape s.args.marks.now

abbrev o : Start → Ground
o s = firm s.args.way.rules s.args.beds.now s.args.roughness.now

-- ---- the answers

pub loop-row-init : goal.loop-row-init
loop-row-init c = (rows_begin _ _, below_none (p (goal.at.loop-row-init c).Start) (o (goal.at.loop-row-init c).Start) c.args.depths.now c.args.way.rules.longest refl)

pub least_in_row-best-requires : goal.least_in_row-best-requires
least_in_row-best-requires c = record {
  meadow_in_range = c.requires;
  in_row = (row_here c.args.way.shape c.loop-row.invariant.0 c.loop-row-test.true, c.row_mask-wet.ensures);
  longer_value = c.loop-row.invariant.1;
}

pub returns : goal.returns
returns c = below_all (p (goal.at.returns c).Start) (o (goal.at.returns c).Start) c.args.depths.now c.loop-row.invariant.1 (rows_end c.args.way.shape c.loop-row.invariant.0 c.loop-row-test.false)
