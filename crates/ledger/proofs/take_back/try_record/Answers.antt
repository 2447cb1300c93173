-- `ledger::take_back::try_record` meets its contract: each return is a test of refusal 11 that fails, or all pass.
-- Assumes nothing.
use mathlib.Core.Path.{sym, ◌∙◌}
use mathlib.Core.List.{[]}
use native.Mathlib.Omega.{arith}
use borrow.Author.Tests.{le-leb, lt-leb}
use Rattle.ledger.specs.Runs.{plan, world}
use Rattle.ledger.specs.TakeBack.{held_and_gone, came_and_added, depth_before, square_restorable}
use Rattle.ledger.proofs.BackLaws.{record_unfit, record_fit}
use Rattle.ledger.proofs.take_back.try_record.Goals as goal

pub returns-then-not-times_fine : goal.returns-then-not-times_fine
returns-then-not-times_fine c =
    record_unfit (plan c.args.shape c.args.marks.now) (world c.args.depths.now [] [] c.args.run)
    c.args.rec.now 0 (sym c.times_fine.ensures ∙ c.if-not-times_fine.true)

pub returns-then-run-lasted : goal.returns-then-run-lasted
returns-then-run-lasted c =
    record_unfit (plan c.args.shape c.args.marks.now) (world c.args.depths.now [] [] c.args.run)
    c.args.rec.now 1 (lt-leb _ _ (omega (arith, c.lasted.ensures, c.if-run-lasted.true)))

pub returns-in_err-found : goal.returns-in_err-found
unfolding square_restorable depth_before held_and_gone came_and_added
returns-in_err-found c =
    rw c.from_residual.ensures (
    record_unfit (plan c.args.shape c.args.marks.now) (world c.args.depths.now [] [] c.args.run)
    c.args.rec.now 2 (sym c.in_err-found.ensures.fits_is)
    )

-- ---- the totals

pub returns-then-run-found : goal.returns-then-run-found
returns-then-run-found c =
    record_unfit (plan c.args.shape c.args.marks.now) (world c.args.depths.now [] [] c.args.run)
    c.args.rec.now 3 (lt-leb _ _ (omega (arith, c.in_ok-found.ensures.off_is, c.if-run-found.true)))

pub returns-then-run-found-2 : goal.returns-then-run-found-2
returns-then-run-found-2 c =
    record_unfit (plan c.args.shape c.args.marks.now) (world c.args.depths.now [] [] c.args.run)
    c.args.rec.now 4 (lt-leb _ _ (omega (arith, c.in_ok-found.ensures.soaked_is, c.if-run-found-2.true)))

pub returns : goal.returns
unfolding square_restorable depth_before held_and_gone came_and_added
returns c =
    record_fit (plan c.args.shape c.args.marks.now) (world c.args.depths.now [] [] c.args.run)
    c.args.rec.now c.in_ok-found.ensures.off_is c.in_ok-found.ensures.soaked_is (
      sym c.times_fine.ensures ∙ c.if-not-times_fine.false,
      (
        le-leb _ _ (omega (arith, c.lasted.ensures, c.if-run-lasted.false)),
        (
          sym c.in_ok-found.ensures.fits_is,
          (
            le-leb _ _ (omega (arith, c.in_ok-found.ensures.off_is, c.if-run-found.false)),
            (le-leb _ _ (omega (arith, c.in_ok-found.ensures.soaked_is, c.if-run-found-2.false)), tt),
          ),
        ),
      ),
    )
