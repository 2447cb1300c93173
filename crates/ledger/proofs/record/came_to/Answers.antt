-- `ledger::record::came_to` meets its contract: what the four sides sent is summed.
-- Assumes nothing.
use mathlib.Core.Path.{◌≡◌}
use Prim.Native.Nat.{◌+◌, ◌≤◌}
use native.Mathlib.Omega.{arith}
use Rattle.ledger.specs.Runs.{Plan, plan}
use Rattle.ledger.specs.Flows.{sent, came}
use Rattle.ledger.specs.Record.{leaves_in}
use Rattle.ledger.proofs.FlowLaws.{four_words, four-sides, came_small}
use Rattle.ledger.proofs.record.came_to.Goals as goal
use Rattle.ledger.proofs.record.came_to.Goals.{After-sent_to-west}

-- ---- where the four are known

module _ (c : After-sent_to-west) where
  abbrev p : Plan
  p = plan c.args.shape c.args.marks.now

  sum_is :
      c.sent_to-north.result + c.sent_to-east.result + c.sent_to-south.result + c.sent_to-west.result ≡
      came p (leaves_in c.args.rec.now) c.args.square
  unfolding came
  sum_is =
      four-sides (sent p (leaves_in c.args.rec.now) c.args.square) c.sent_to-north.ensures
      c.sent_to-east.ensures c.sent_to-south.ensures c.sent_to-west.ensures

  sum-small : came p (leaves_in c.args.rec.now) c.args.square ≤ four_words
  sum-small = came_small c.args.rec.now (λ k. (c.type_inv.rec k).fits) p c.args.square

pub overflow_add-result : goal.overflow_add-result
overflow_add-result c = omega (arith, sum_is c, sum-small c)

pub overflow_add-result-2 : goal.overflow_add-result-2
overflow_add-result-2 c = omega (arith, sum_is c, sum-small c)

pub overflow_add-result-3 : goal.overflow_add-result-3
overflow_add-result-3 c = omega (arith, sum_is c, sum-small c)

pub returns : goal.returns
returns c = sum_is c
