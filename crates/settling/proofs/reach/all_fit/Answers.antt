-- `settling::reach::all_fit` meets its contract: the rows so far fit; a row's columns that are not reached have nothing in the room.
-- Assumes nothing.
use Rattle.std.proofs.Common.{◌≡◌, ℕ, Bool, false, get_or, sym, ◌∙◌}
use Rattle.reckon.proofs.TestLaws.{all_none}
use Rattle.grid.specs.Marks.{closed}
use Rattle.grid.specs.Inner.Rows.{InRow}
use Rattle.grid.proofs.SquareLaws.{rows_begin, row_here}
use Rattle.grid.proofs.WalkLaws.{by_row}
use Rattle.settling.specs.Inner.Settle.{fits_at, reached_row, reached_at}
use Rattle.settling.proofs.ReachLaws.{fails_beyond}
use Rattle.settling.proofs.reach.all_fit.Goals as goal
use Rattle.settling.proofs.reach.all_fit.Goals.{In-loop-row, Start}

-- ---- what is known there

abbrev fit : Start → ℕ → Bool
fit s = fits_at s.args.marks.now s.args.room.now

-- in a turn: the row is one of the grid
in_row : (c : In-loop-row) → InRow c.args.shape c.loop-row.first
in_row c = row_here c.args.shape c.loop-row.invariant.0 c.loop-row-test.true

pub loop-row-init : goal.loop-row-init
loop-row-init c = (rows_begin _ _, all_none (fit (goal.at.loop-row-init c).Start))

pub row_fits-requires : goal.row_fits-requires
unfolding reached_at
row_fits-requires c = record {
  shape_in_range = (c.requires.shape_in_range.0, in_row (goal.at.row_fits-requires c).In-loop-row, c.requires.shape_in_range.1, c.requires.shape_in_range.2);
  where_clear = (
    by_row c.args.shape c.loop-row.row c.loop-row.invariant.0.begins (reached_row c.args.worked.now c.args.senders.now)
        (λ i. closed c.args.marks.now i ≡ false → get_or c.args.room.now i 0 ≡ 0) c.loop-row-test.true c.reached-columns_reached.ensures c.requires.worked_len.2,
    c.loop-row.invariant.1,
  );
}

pub returns-then-not-row_fits : goal.returns-then-not-row_fits
returns-then-not-row_fits c =
    sym
    (fails_beyond c.args.marks.now c.args.room.now (in_row (goal.at.returns-then-not-row_fits c).In-loop-row).fits
    (sym c.row_fits.ensures ∙ c.if-not-row_fits.true))
