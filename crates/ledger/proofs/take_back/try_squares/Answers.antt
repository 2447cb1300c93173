-- `ledger::take_back::try_squares` meets its contract: every square so far can be restored, and what it sent off the grid and what soaked is summed.
-- Assumes nothing.
use mathlib.Core.Path.{sym, ap₂, ◌∙◌}
use Prim.Native.Nat.{◌+◌}
use native.Mathlib.Omega.{arith}
use Rattle.reckon.proofs.TestLaws.{all_none, all_more, all_fails, all_whole}
use Rattle.reckon.proofs.ListLaws.{sum_none, sum_more}
use Rattle.ledger.specs.Runs.{plan}
use Rattle.ledger.specs.Flows.{off_square, soaked_square}
use Rattle.ledger.specs.Record.{leaves_in, soaked_in}
use Rattle.ledger.proofs.FlowLaws.{off_small, off_sum_small, soaked_made, soaked_square_small, soaked_sum_small}
use Rattle.ledger.proofs.WalkLaws.{walk_none, walk_next, walk_end, walked_unfit, walked_fit}
use Rattle.ledger.proofs.take_back.try_squares.Goals as goal

pub loop-square-init : goal.loop-square-init
loop-square-init c = (walk_none _ c.squares_of-square-end.ensures, all_none _, sym (sum_none _), sym (sum_none _))

pub returns-then-not-square_restorable : goal.returns-then-not-square_restorable
returns-then-not-square_restorable c =
    walked_unfit (plan c.args.shape c.args.marks.now) c.args.rec.now
    (all_fails _ _ c.loop-square.square (omega (arith, c.squares_of-square-end.ensures)) (sym c.square_restorable.ensures ∙ c.if-not-square_restorable.true))

pub overflow_add-off : goal.overflow_add-off
overflow_add-off c =
    let p = plan c.args.shape c.args.marks.now in
    let rec = c.args.rec.now in
    let i = c.loop-square.square in
    omega (
      arith,
      c.loop-square.invariant.2,
      off_sum_small rec (λ k. (c.type_inv.rec k).fits) p i,
      c.off_from-off.ensures,
      off_small rec (λ k. (c.type_inv.rec k).fits) p i,
      c.squares_of-square-end.ensures,
      c.requires.recorded.fine.few,
    )

pub overflow_add-soaked : goal.overflow_add-soaked
overflow_add-soaked c =
    let p = plan c.args.shape c.args.marks.now in
    let rec = c.args.rec.now in
    let i = c.loop-square.square in
    omega (
      arith,
      c.loop-square.invariant.3,
      soaked_sum_small rec (λ k. (c.type_inv.rec k).fits) p i,
      soaked_made rec (λ k. (c.type_inv.rec k).fits) p i c.soaked_from-soaked.ensures,
      soaked_square_small rec (λ k. (c.type_inv.rec k).fits) p i,
      c.squares_of-square-end.ensures,
      c.requires.recorded.fine.few,
    )

pub loop-square-preserved : goal.loop-square-preserved
loop-square-preserved c =
    let p = plan c.args.shape c.args.marks.now in
    let rec = c.args.rec.now in
    let i = c.loop-square.square in
    let inv = c.loop-square.invariant in (
      walk_next _ inv.0 c.loop-square-test.true c.next_column-column.ensures,
      all_more _ _ inv.1 (sym c.square_restorable.ensures ∙ c.if-not-square_restorable.false),
      ap₂ ◌+◌ inv.2 c.off_from-off.ensures ∙ sym (sum_more i (off_square p (leaves_in rec))),
      ap₂ ◌+◌ inv.3 (soaked_made rec (λ k. (c.type_inv.rec k).fits) p i c.soaked_from-soaked.ensures)
          ∙ sym (sum_more i (soaked_square p (soaked_in rec))),
    )

pub returns : goal.returns
returns c =
    let inv = c.loop-square.invariant in
    let whole = walk_end _ inv.0 c.loop-square-test.false in
    walked_fit (plan c.args.shape c.args.marks.now) c.args.rec.now (all_whole _ inv.1 whole) inv.2 inv.3 whole
