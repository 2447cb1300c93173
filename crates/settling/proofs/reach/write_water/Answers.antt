-- `settling::reach::write_water` meets its contract: the rows so far are written, the last leaving by the columns that were worked, the depths
-- where any is reached.
-- Assumes nothing.
use Rattle.std.proofs.Common.{◌≡◌, ◌+◌, false, get_or, refl, ◌∙◌, arith}
use Rattle.grid.specs.Inner.Rows.{InRow}
use Rattle.grid.proofs.SquareLaws.{row_here, row_next}
use Rattle.grid.proofs.WalkLaws.{by_row}
use Rattle.ledger.specs.Runs.{Plan, plan}
use Rattle.ledger.specs.Flows.{shut}
use Rattle.settling.specs.Inner.Settle.{WhereClear, reached_row, reached_at}
use Rattle.settling.proofs.ReachLaws.{then_written, alike_written, skips_row}
use Rattle.settling.proofs.reach.write_water.Goals as goal
use Rattle.settling.proofs.reach.write_water.Goals.{After-reached-columns_reached, At-loop-row, In-loop-row}

-- ---- what is known there

abbrev p : At-loop-row → Plan
p c = plan c.args.shape c.args.marks.now

-- in a turn: the row is one of the grid
in_row : (c : In-loop-row) → InRow (p (goal.at.In-loop-row c).At-loop-row).shape c.loop-row.first
in_row c = row_here (p (goal.at.In-loop-row c).At-loop-row).shape c.loop-row.invariant.0 c.loop-row-test.true

-- what its columns that are not reached have before is the room's already
same_at :
    (c : After-reached-columns_reached) → WhereClear (p (goal.at.After-reached-columns_reached c).At-loop-row).shape c.loop-row.first c.reached-columns_reached.result (λ i. shut (p (goal.at.After-reached-columns_reached c).At-loop-row) i ≡ false → get_or c.args.depths.now i 0 ≡ get_or c.args.room.now i 0)
unfolding reached_at
same_at c =
    by_row c.args.shape c.loop-row.row c.loop-row.invariant.0.begins (reached_row c.args.worked.now c.args.senders.now)
    (λ i. shut (p (goal.at.After-reached-columns_reached c).At-loop-row) i ≡ false → get_or c.args.depths.now i 0 ≡ get_or c.args.room.now i 0) c.loop-row-test.true c.reached-columns_reached.ensures c.requires.worked_len.2

pub write_row-requires : goal.write_row-requires
write_row-requires c = (c.requires.shape_in_range.0, in_row (goal.at.write_row-requires c).In-loop-row, c.requires.shape_in_range.1, c.requires.shape_in_range.2, omega (arith, c.loop-row.invariant.1.long, c.requires.shape_in_range.4))

pub cover_row-requires : goal.cover_row-requires
cover_row-requires c = record {
  shape_in_range = (c.requires.shape_in_range.0, in_row (goal.at.cover_row-requires c).In-loop-row, c.requires.shape_in_range.1, c.requires.shape_in_range.3, omega (arith, c.loop-row.invariant.2.long, c.requires.shape_in_range.5));
  where_clear = (λ k l b o.
      c.loop-row.invariant.2.kept (c.loop-row.first + k) (λ x y. absurd (omega arith)) ∙ same_at (goal.at.cover_row-requires c).After-reached-columns_reached k l b o);
}

pub loop-row-preserved : goal.loop-row-preserved
loop-row-preserved c =
    let begins = c.loop-row.invariant.0.begins in (
      row_next c.loop-row.invariant.0 c.loop-row-test.true,
      then_written (omega arith) (omega arith) c.loop-row.invariant.1
          (alike_written (skips_row (p (goal.at.loop-row-preserved c).At-loop-row) c.loop-row.row begins c.args.worked.now refl) c.write_row.ensures),
      then_written (omega arith) (omega arith) c.loop-row.invariant.2 c.cover_row.ensures,
    )
