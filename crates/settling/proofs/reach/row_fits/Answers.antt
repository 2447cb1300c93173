-- `settling::reach::row_fits` meets its contract: the columns passed fit; those between two that are reached have nothing in the room.
-- Assumes nothing.
use Rattle.std.proofs.Common.{◌≡◌, ℕ, ◌+◌, ◌<◌, Bool, true, sym, ◌∙◌, arith}
use Rattle.reckon.specs.Tests.{all_below}
use Rattle.reckon.proofs.TestLaws.{all_more, all_fails, all_whole}
use Rattle.grid.specs.Squares.{squares}
use Rattle.grid.specs.Inner.Visits.{Passes, Visits}
use Rattle.grid.proofs.RestLaws.{walk_begins, walk_within, walk_turn, walk_on, walk_over}
use Rattle.settling.specs.Inner.Settle.{fits_at}
use Rattle.settling.proofs.ReachLaws.{fits_none}
use Rattle.settling.proofs.reach.row_fits.Goals as goal
use Rattle.settling.proofs.reach.row_fits.Goals.{After-lowest_set-column, Start}

-- ---- what is known there

abbrev fit : Start → ℕ → Bool
fit s = fits_at s.args.marks.now s.args.room.now

module _ (s : Start) where
  abbrev Fit : ℕ → Type 0
  Fit k = all_below (s.args.first + k) (fit s) ≡ true

  -- one column more
  fit-more : (k : ℕ) → Fit k → fit s (s.args.first + k) ≡ true → Fit (k + 1)
  fit-more k t e = all_whole (fit s) (all_more (fit s) (s.args.first + k) t e) (omega arith)

  -- one that is not reached has nothing in the room
  passes : Passes s.args.reached s.args.shape.columns Fit
  passes k h b t = fit-more k t (fits_none s.args.marks.now s.args.room.now (s.args.first + k) (s.requires.where_clear.0 k h b))

-- in a turn: the column is one of the row, and its square on the grid
module _ (c : After-lowest_set-column) where
  abbrev column : ℕ
  column = c.lowest_set-column.result

  within : column < c.args.shape.columns
  within = walk_within c.loop-rest.invariant c.requires.shape_in_range.0.columns_high c.loop-rest-test.true c.lowest_set-column.ensures

  here : Visits c.args.reached c.args.shape.columns (Fit (goal.at.After-lowest_set-column c).Start) column
  here = walk_turn c.loop-rest.invariant c.requires.shape_in_range.0.columns_high c.loop-rest-test.true c.lowest_set-column.ensures (passes (goal.at.After-lowest_set-column c).Start)

  on_grid : c.args.first + column < squares c.args.shape
  on_grid = omega (arith, within, c.requires.shape_in_range.1.fits)

pub loop-rest-init : goal.loop-rest-init
loop-rest-init c = walk_begins c.requires.shape_in_range.0.columns_high c.within_row-rest.ensures (all_whole (fit (goal.at.loop-rest-init c).Start) c.requires.where_clear.1 (omega arith))

pub overflow_add-first : goal.overflow_add-first
overflow_add-first c = omega (arith, on_grid c, c.requires.shape_in_range.0.few)

pub fits-requires : goal.fits-requires
fits-requires c = (omega (arith, on_grid c, c.requires.shape_in_range.2), omega (arith, on_grid c, c.requires.shape_in_range.3))

pub returns-then-not-fits : goal.returns-then-not-fits
returns-then-not-fits c =
    sym
    (all_fails (c.args.first + c.args.shape.columns) (fit (goal.at.returns-then-not-fits c).Start) (c.args.first + column (goal.at.returns-then-not-fits c).After-lowest_set-column) (omega (arith, within (goal.at.returns-then-not-fits c).After-lowest_set-column))
    (sym c.fits.ensures ∙ c.if-not-fits.true))

pub loop-rest-preserved : goal.loop-rest-preserved
loop-rest-preserved c =
    let own : fit (goal.at.loop-rest-preserved c).Start (c.args.first + column (goal.at.loop-rest-preserved c).After-lowest_set-column) ≡ true = sym c.fits.ensures ∙ c.if-not-fits.false in
    walk_on c.loop-rest.invariant c.requires.shape_in_range.0.columns_high c.loop-rest-test.true c.lowest_set-column.ensures c.without_lowest-rest.ensures
    (fit-more (goal.at.loop-rest-preserved c).Start (column (goal.at.loop-rest-preserved c).After-lowest_set-column) (here (goal.at.loop-rest-preserved c).After-lowest_set-column).held own)

pub returns : goal.returns
returns c = sym (walk_over c.loop-rest.invariant c.requires.shape_in_range.0.columns_high c.loop-rest-test.false (passes (goal.at.returns c).Start))
