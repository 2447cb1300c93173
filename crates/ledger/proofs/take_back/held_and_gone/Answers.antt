-- `ledger::take_back::held_and_gone` meets its contract: a depth and five words.
-- Assumes nothing.
use native.Mathlib.Omega.{arith}
use Rattle.ledger.proofs.FlowLaws.{gone_small, soaked_small}
use Rattle.ledger.proofs.take_back.held_and_gone.Goals as goal

pub overflow_add-result : goal.overflow_add-result
overflow_add-result c =
    omega (
      arith,
      c.number.ensures,
      c.type_inv.depths c.args.square,
      c.lost_from.ensures,
      gone_small c.args.rec.now (λ k. (c.type_inv.rec k).fits) c.args.square,
      soaked_small c.args.rec.now (λ k. (c.type_inv.rec k).fits) c.args.square,
    )
