-- `settling::spread::spread` meets its contract: the rows so far are spread.
-- Assumes nothing.
use Rattle.std.proofs.Common.{◌≡◌, ℕ, false, List, get_or, refl}
use Rattle.grid.specs.Marks.{closed}
use Rattle.grid.specs.Inner.Rows.{InRow}
use Rattle.grid.proofs.SquareLaws.{rows_begin, row_here, rows_end}
use Rattle.ledger.specs.Runs.{Plan, plan}
use Rattle.ledger.specs.Flows.{gone}
use Rattle.ledger.specs.Record.{leaves_in}
use Rattle.settling.specs.Inner.Settle.{IdleAt}
use Rattle.grid.specs.Walks.{bit_of}
use Rattle.grid.proofs.WalkLaws.{by_row}
use Rattle.settling.proofs.SpreadLaws.{spread_none, spread_all}
use Rattle.settling.proofs.spread.spread.Goals as goal
use Rattle.settling.proofs.spread.spread.Goals.{In-loop-row, Start}

-- ---- what is known there

module _ (s : Start) where
  abbrev p : Plan
  p = plan s.args.shape s.args.marks.now

  abbrev rec : List ℕ
  rec = s.args.rec.now

  abbrev depths : List ℕ
  depths = s.args.depths.now

  abbrev masks : ℕ → ℕ
  masks row = get_or s.args.worked.now row 0

  -- a square that is idle unless it is closed, and one of which it is known what left
  abbrev Passed : ℕ → Type 0
  Passed i = closed s.args.marks.now i ≡ false → IdleAt rec depths i

  abbrev Left : ℕ → Type 0
  Left i = closed s.args.marks.now i ≡ false → get_or s.args.left.now i 0 ≡ gone (leaves_in rec) i

-- in a turn: the row is one of the grid
in_row : (c : In-loop-row) → InRow c.args.shape c.loop-row.first
in_row c = row_here c.args.shape c.loop-row.invariant.0 c.loop-row-test.true

pub loop-row-init : goal.loop-row-init
loop-row-init c = (rows_begin _ _, spread_none (p (goal.at.loop-row-init c).Start) (rec (goal.at.loop-row-init c).Start) (depths (goal.at.loop-row-init c).Start) c.requires.spreads.1)

pub spread_row-lost-requires : goal.spread_row-lost-requires
unfolding bit_of
spread_row-lost-requires c = record {
  spreads = (c.requires.spreads.0, in_row (goal.at.spread_row-lost-requires c).In-loop-row, c.loop-row.invariant.1);
  left_len = (
    c.requires.spreads.2,
    by_row c.args.shape c.loop-row.row c.loop-row.invariant.0.begins (masks (goal.at.spread_row-lost-requires c).Start) (Passed (goal.at.spread_row-lost-requires c).Start) c.loop-row-test.true refl c.requires.worked_len.1,
    by_row c.args.shape c.loop-row.row c.loop-row.invariant.0.begins (masks (goal.at.spread_row-lost-requires c).Start) (Left (goal.at.spread_row-lost-requires c).Start) c.loop-row-test.true refl c.requires.worked_len.2,
  );
}

pub returns : goal.returns
returns c =
    spread_all (p (goal.at.returns c).Start) (rec (goal.at.returns c).Start) (depths (goal.at.returns c).Start) c.requires.spreads.0.recorded.marks_long c.loop-row.invariant.1
    (rows_end c.args.shape c.loop-row.invariant.0 c.loop-row-test.false)
