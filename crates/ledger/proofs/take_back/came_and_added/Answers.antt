-- `ledger::take_back::came_and_added` meets its contract: five words.
-- Assumes nothing.
use native.Mathlib.Omega.{arith}
use Rattle.ledger.specs.Runs.{plan}
use Rattle.ledger.proofs.FlowLaws.{came_small, added_small}
use Rattle.ledger.proofs.take_back.came_and_added.Goals as goal

pub overflow_add-result : goal.overflow_add-result
overflow_add-result c =
    omega (
      arith,
      c.came_to.ensures,
      came_small c.args.rec.now (λ k. (c.type_inv.rec k).fits)
          (plan c.args.shape c.args.marks.now) c.args.square,
      c.added_by.ensures,
      added_small c.args.rec.now (λ k. (c.type_inv.rec k).fits) c.args.square,
    )
