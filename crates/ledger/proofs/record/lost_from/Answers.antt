-- `ledger::record::lost_from` meets its contract: five words.
-- Assumes nothing.
use native.Mathlib.Omega.{arith}
use Rattle.ledger.proofs.FlowLaws.{gone_small, soaked_small}
use Rattle.ledger.proofs.record.lost_from.Goals as goal

pub overflow_add-result : goal.overflow_add-result
overflow_add-result c =
    omega (
      arith,
      c.gone_from.ensures,
      gone_small c.args.rec.now (λ k. (c.type_inv.rec k).fits) c.args.square,
      c.soaked_by.ensures,
      soaked_small c.args.rec.now (λ k. (c.type_inv.rec k).fits) c.args.square,
    )
