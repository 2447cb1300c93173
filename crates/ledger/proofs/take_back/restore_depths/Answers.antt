-- `ledger::take_back::restore_depths` meets its contract: after i turns the first i squares that are not closed are restored; a square's
-- depth is not changed before its turn.
-- Assumes nothing.
use mathlib.Core.Path.{◌≡◌, ap, ◌∙◌}
use mathlib.Core.List.{List}
use Prim.Native.Nat.{ℕ, ◌<◌}
use native.Mathlib.Omega.{arith}
use lib.ListN.{length, get_or}
use Rattle.reckon.proofs.TestLaws.{all_at}
use Rattle.reckon.proofs.ListLaws.{filled_none, filled_ahead}
use Rattle.grid.specs.Marks.{closed}
use Rattle.ledger.specs.Runs.{plan}
use Rattle.ledger.specs.Inner.Worlds.{of_depths}
use Rattle.ledger.specs.TakeBack.{depth_before}
use Rattle.ledger.proofs.WalkLaws.{walk_none, walk_stands, walk_next, filled_long, filled_turn}
use Rattle.ledger.proofs.BackLaws.{restores_of, restores_own, before_own}
use Rattle.ledger.proofs.take_back.restore_depths.Goals as goal

pub loop-square-init : goal.loop-square-init
loop-square-init c = (walk_none _ c.squares_of-square-end.ensures, filled_none _ _ _)

pub restore_depth-requires : goal.restore_depth-requires
restore_depth-requires c =
    let p = plan c.args.shape c.args.marks.now in
    let i = c.loop-square.square in
    let h = walk_stands _ c.loop-square.invariant.0 c.requires.record_and_depths.recorded.fine c.loop-square-test.true in
    let same : get_or c.loop-square.depths i 0 ≡ get_or c.args.depths.now i 0 =
    ap (λ (l : List ℕ). get_or l i 0) c.loop-square.invariant.1 ∙ filled_ahead (closed c.args.marks.now)
    (depth_before p (of_depths c.args.depths.now) c.args.rec.now) c.args.depths.now i
    (omega (arith, c.requires.record_and_depths.depths_long, h.inside)) in record {
      record_and_depths = record { recorded = c.requires.record_and_depths.recorded; depths_long = filled_long _ _ _ _ c.loop-square.invariant.1 ∙ c.requires.record_and_depths.depths_long };
      on_square = (
        h,
        λ e. restores_own p c.args.rec.now i same
            (restores_of p c.args.rec.now c.args.depths.now i e (all_at _ _ c.requires.rec_value i h.inside)),
      );
    }

pub loop-square-preserved : goal.loop-square-preserved
loop-square-preserved c =
    let p = plan c.args.shape c.args.marks.now in
    let i = c.loop-square.square in
    let l : i < length c.args.depths.now =
    omega (
      arith,
      c.requires.record_and_depths.depths_long,
      c.squares_of-square-end.ensures,
      c.loop-square-test.true,
    ) in
    let same : get_or c.loop-square.depths i 0 ≡ get_or c.args.depths.now i 0 =
    ap (λ (l : List ℕ). get_or l i 0) c.loop-square.invariant.1 ∙ filled_ahead (closed c.args.marks.now)
    (depth_before p (of_depths c.args.depths.now) c.args.rec.now) c.args.depths.now i l in (
      walk_next _ c.loop-square.invariant.0 c.loop-square-test.true c.next_column-column.ensures,
      filled_turn (closed c.args.marks.now) (depth_before p (of_depths c.args.depths.now) c.args.rec.now)
          c.args.depths.now l c.loop-square.invariant.1 (λ z. before_own p c.args.rec.now _ _ i same)
          c.restore_depth.ensures,
    )
