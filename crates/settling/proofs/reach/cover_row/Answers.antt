-- `settling::reach::cover_row` meets its contract: a row of which nothing is reached is right already; else its columns are covered.
-- Assumes nothing.
use Rattle.std.proofs.Common.{◌≡◌, ℕ, ◌+◌, ◌-◌, ◌<◌, false, get_or, refl, ap, ◌∙◌, subst, arith}
use Rattle.grid.specs.Squares.{squares}
use Rattle.grid.specs.Marks.{closed}
use Rattle.grid.specs.Masks.{bit_at}
use Rattle.grid.proofs.RestLaws.{zero_bit}
use Rattle.settling.proofs.ReachLaws.{one_written, right_written, same_written, then_written}
use Rattle.settling.proofs.reach.cover_row.Goals as goal
use Rattle.settling.proofs.reach.cover_row.Goals.{In-loop-column}

-- ---- what is known there

-- in a turn: the column's square is on the grid
on_grid : (c : In-loop-column) → c.args.first + c.loop-column.column < squares c.args.shape
on_grid c = omega (arith, c.loop-column-test.true, c.requires.shape_in_range.1.fits)

pub returns-then-reached-eq0 : goal.returns-then-reached-eq0
returns-then-reached-eq0 c =
    right_written
    (λ i x y o.
    let at : c.args.first + (i - c.args.first) ≡ i = omega arith in
    subst (λ (j : ℕ). closed c.args.marks.now j ≡ false → get_or c.args.list.now j 0 ≡ get_or c.args.from.now j 0) at
    (c.requires.where_clear (i - c.args.first) (omega arith) (ap (λ (m : ℕ). bit_at m (i - c.args.first)) c.if-reached-eq0.true ∙ zero_bit (i - c.args.first))) o)

pub loop-column-preserved : goal.loop-column-preserved
loop-column-preserved c =
    let own =
    one_written {skips = closed c.args.marks.now} {amount = λ i. get_or c.args.from.now i 0}
    (omega (arith, on_grid (goal.at.loop-column-preserved c).In-loop-column, c.requires.shape_in_range.4, c.loop-column.invariant.long)) refl c.cover_one.ensures refl in
    same_written (then_written (omega arith) (omega arith) c.loop-column.invariant own) (omega arith)
