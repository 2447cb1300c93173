-- `settling::reach::write_row` meets its contract: the columns passed are written; those between two that the mask has are skipped.
-- Assumes nothing.
use Rattle.std.proofs.Common.{◌≡◌, ℕ, ◌+◌, ◌<◌, Bool, true, List, get_or, refl, subst, arith}
use Rattle.grid.specs.Squares.{squares}
use Rattle.grid.specs.Inner.Visits.{Passes, Visits}
use Rattle.grid.proofs.RestLaws.{walk_begins, walk_within, walk_turn, walk_on, walk_over}
use Rattle.settling.specs.Inner.Settle.{Written, skips_in}
use Rattle.settling.proofs.ReachLaws.{one_written, skip_written, same_written, then_written, skips_clear, skips_closed}
use Rattle.settling.proofs.reach.write_row.Goals as goal
use Rattle.settling.proofs.reach.write_row.Goals.{After-lowest_set-column, Start}

-- ---- what is known there

module _ (s : Start) where
  abbrev skips : ℕ → Bool
  skips = skips_in s.args.marks.now s.args.first s.args.mask

  abbrev amount : ℕ → ℕ
  amount i = get_or s.args.from.now i 0

  -- a column that the mask does not have is skipped
  passes :
      (old new : List ℕ) → Passes s.args.mask s.args.shape.columns (λ k. Written skips amount s.args.first (s.args.first + k) old new)
  passes old new k h b w =
      then_written (omega arith) (omega arith) w
      (skip_written
      (λ i x y. subst (λ (j : ℕ). skips j ≡ true) (let e : s.args.first + k ≡ i = omega arith in e) (skips_clear s.args.marks.now s.args.first s.args.mask k b)))

-- in a turn: the column is one of the row, and its square on the grid
module _ (c : After-lowest_set-column) where
  abbrev column : ℕ
  column = c.lowest_set-column.result

  within : column < c.args.shape.columns
  within = walk_within c.loop-rest.invariant c.requires.0.columns_high c.loop-rest-test.true c.lowest_set-column.ensures

  here :
      Visits c.args.mask c.args.shape.columns
      (λ k. Written (skips (goal.at.After-lowest_set-column c).Start) (amount (goal.at.After-lowest_set-column c).Start) c.args.first (c.args.first + k) c.args.list.now c.loop-rest.list) column
  here = walk_turn c.loop-rest.invariant c.requires.0.columns_high c.loop-rest-test.true c.lowest_set-column.ensures (passes (goal.at.After-lowest_set-column c).Start _ _)

  on_grid : c.args.first + column < squares c.args.shape
  on_grid = omega (arith, within, c.requires.1.fits)

pub loop-rest-init : goal.loop-rest-init
loop-rest-init c = walk_begins c.requires.0.columns_high c.within_row-rest.ensures (skip_written (λ i x y. absurd (omega arith)))

pub overflow_add-first : goal.overflow_add-first
overflow_add-first c = omega (arith, on_grid c, c.requires.0.few)

pub write_one-requires : goal.write_one-requires
write_one-requires c = (
  omega (arith, on_grid (goal.at.write_one-requires c).After-lowest_set-column, c.requires.2),
  omega (arith, on_grid (goal.at.write_one-requires c).After-lowest_set-column, c.requires.3),
  omega (arith, on_grid (goal.at.write_one-requires c).After-lowest_set-column, c.requires.4, (here (goal.at.write_one-requires c).After-lowest_set-column).held.long),
)

pub loop-rest-preserved : goal.loop-rest-preserved
loop-rest-preserved c =
    let own =
    one_written {skips = skips (goal.at.loop-rest-preserved c).Start} {amount = amount (goal.at.loop-rest-preserved c).Start} (omega (arith, on_grid (goal.at.loop-rest-preserved c).After-lowest_set-column, c.requires.4, (here (goal.at.loop-rest-preserved c).After-lowest_set-column).held.long))
    (skips_closed c.args.marks.now c.args.first c.args.mask (column (goal.at.loop-rest-preserved c).After-lowest_set-column) ((here (goal.at.loop-rest-preserved c).After-lowest_set-column).visited (within (goal.at.loop-rest-preserved c).After-lowest_set-column))) c.write_one.ensures refl in
    walk_on c.loop-rest.invariant c.requires.0.columns_high c.loop-rest-test.true c.lowest_set-column.ensures c.without_lowest-rest.ensures
    (same_written (then_written (omega arith) (omega arith) (here (goal.at.loop-rest-preserved c).After-lowest_set-column).held own) (omega arith))

pub returns : goal.returns
returns c = walk_over c.loop-rest.invariant c.requires.0.columns_high c.loop-rest-test.false (passes (goal.at.returns c).Start _ _)
