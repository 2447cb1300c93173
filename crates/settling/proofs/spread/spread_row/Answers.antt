-- `settling::spread::spread_row` meets its contract: the columns passed are spread; those between two that were worked are closed or idle.
-- Assumes nothing.
use Rattle.std.proofs.Common.{ℕ, ◌+◌, ◌<◌, ◌≤◌, List, arith}
use Rattle.grid.specs.Inner.Visits.{Passes, Visits}
use Rattle.grid.proofs.SquareLaws.{row-column}
use Rattle.grid.proofs.RestLaws.{walk_begins, walk_within, walk_turn, walk_on, walk_over}
use Rattle.ledger.specs.Runs.{Plan, plan}
use Rattle.settling.specs.declared.spread.Lost.{Lost}
use Rattle.settling.specs.Inner.Settle.{SpreadTo}
use Rattle.settling.proofs.SpreadLaws.{spread_same, spread_idle}
use Rattle.settling.proofs.spread.spread_row.Goals as goal
use Rattle.settling.proofs.spread.spread_row.Goals.{After-lowest_set-column, Start}

-- ---- what is known there

module _ (s : Start) where
  abbrev p : Plan
  p = plan s.args.shape s.args.marks.now

  abbrev rec : List ℕ
  rec = s.args.rec.now

  abbrev depths : List ℕ
  depths = s.args.depths.now

  -- a column that was not worked is closed or idle
  passes : (lost : Lost) (room : List ℕ) → Passes s.args.worked s.args.shape.columns (λ k. SpreadTo p rec depths (s.args.first + k) lost room)
  passes lost room k h b t = spread_same p rec depths (spread_idle p rec depths (s.requires.left_len.1 k h b) t) (omega arith)

  columns_high : s.args.shape.columns ≤ 64
  columns_high = s.requires.spreads.0.recorded.fine.columns_high

-- in a turn: the column is one of the row
module _ (c : After-lowest_set-column) where
  abbrev column : ℕ
  column = c.lowest_set-column.result

  within : column < c.args.shape.columns
  within = walk_within c.loop-rest.invariant (columns_high (goal.at.After-lowest_set-column c).Start) c.loop-rest-test.true c.lowest_set-column.ensures

  here :
      Visits c.args.worked c.args.shape.columns
      (λ k. SpreadTo (p (goal.at.After-lowest_set-column c).Start) (rec (goal.at.After-lowest_set-column c).Start) (depths (goal.at.After-lowest_set-column c).Start) (c.args.first + k) c.loop-rest.lost c.loop-rest.room) column
  here = walk_turn c.loop-rest.invariant (columns_high (goal.at.After-lowest_set-column c).Start) c.loop-rest-test.true c.lowest_set-column.ensures (passes (goal.at.After-lowest_set-column c).Start _ _)

pub loop-rest-init : goal.loop-rest-init
loop-rest-init c = walk_begins (columns_high (goal.at.loop-rest-init c).Start) c.within_row-rest.ensures (spread_same (p (goal.at.loop-rest-init c).Start) (rec (goal.at.loop-rest-init c).Start) (depths (goal.at.loop-rest-init c).Start) c.requires.spreads.2 (omega arith))

pub overflow_add-first : goal.overflow_add-first
overflow_add-first c = omega (arith, c.requires.spreads.1.fits, c.requires.spreads.0.recorded.fine.few, within c)

pub spread_one-lost-requires : goal.spread_one-lost-requires
spread_one-lost-requires c = record {
  spreads = (c.requires.spreads.0, row-column c.args.shape c.requires.spreads.0.recorded.fine c.requires.spreads.1 (within (goal.at.spread_one-lost-requires c).After-lowest_set-column), (here (goal.at.spread_one-lost-requires c).After-lowest_set-column).held);
  square_in_bounds = (
    omega (arith, c.requires.left_len.0, c.requires.spreads.0.recorded.marks_long, c.requires.spreads.1.fits, within (goal.at.spread_one-lost-requires c).After-lowest_set-column),
    c.requires.left_len.2 (column (goal.at.spread_one-lost-requires c).After-lowest_set-column) (within (goal.at.spread_one-lost-requires c).After-lowest_set-column) ((here (goal.at.spread_one-lost-requires c).After-lowest_set-column).visited (within (goal.at.spread_one-lost-requires c).After-lowest_set-column)),
  );
}

pub loop-rest-preserved : goal.loop-rest-preserved
loop-rest-preserved c =
    walk_on c.loop-rest.invariant (columns_high (goal.at.loop-rest-preserved c).Start) c.loop-rest-test.true c.lowest_set-column.ensures c.without_lowest-rest.ensures
    (spread_same (p (goal.at.loop-rest-preserved c).Start) (rec (goal.at.loop-rest-preserved c).Start) (depths (goal.at.loop-rest-preserved c).Start) c.spread_one-lost.ensures (omega arith))

pub returns : goal.returns
returns c = walk_over c.loop-rest.invariant (columns_high (goal.at.returns c).Start) c.loop-rest-test.false (passes (goal.at.returns c).Start _ _)
