-- `ledger::record::off_from` meets its contract: nothing where it is closed or not on the rim, else the four sides summed.
-- Assumes nothing.
use mathlib.Core.Path.{◌≡◌, sym, ◌∙◌}
use Prim.Native.Nat.{◌+◌, ◌≤◌}
use native.Mathlib.Omega.{arith}
use Rattle.reckon.proofs.TestLaws.{pick_true, pick_false}
use Rattle.ledger.specs.Runs.{Plan, plan}
use Rattle.ledger.specs.Flows.{off_side, off_square}
use Rattle.ledger.specs.Record.{leaves_in}
use Rattle.ledger.proofs.FlowLaws.{four_words, four-sides, off_none, off_small}
use Rattle.ledger.proofs.record.off_from.Goals as goal
use Rattle.ledger.proofs.record.off_from.Goals.{After-off_side-west}

-- ---- where the four are known

module _ (c : After-off_side-west) where
  abbrev p : Plan
  p = plan c.args.shape c.args.marks.now

  sum_is :
      c.off_side-north.result + c.off_side-east.result + c.off_side-south.result + c.off_side-west.result ≡
      off_square p (leaves_in c.args.rec.now) c.args.square
  unfolding off_square
  sum_is =
      four-sides (off_side p (leaves_in c.args.rec.now) c.args.square) c.off_side-north.ensures
      c.off_side-east.ensures c.off_side-south.ensures c.off_side-west.ensures
      ∙ sym (pick_false _ _ (sym c.is_closed.ensures ∙ c.if-is_closed.false))

  sum-small : off_square p (leaves_in c.args.rec.now) c.args.square ≤ four_words
  sum-small = off_small c.args.rec.now (λ k. (c.type_inv.rec k).fits) p c.args.square

pub returns-then-is_closed : goal.returns-then-is_closed
unfolding off_square
returns-then-is_closed c = sym (pick_true _ _ (sym c.is_closed.ensures ∙ c.if-is_closed.true))

pub returns-then-not-on_rim : goal.returns-then-not-on_rim
returns-then-not-on_rim c = off_none (plan c.args.shape c.args.marks.now) (leaves_in c.args.rec.now) c.args.square (sym c.on_rim.ensures ∙ c.if-not-on_rim.true)

pub overflow_add-result : goal.overflow_add-result
overflow_add-result c = omega (arith, sum_is c, sum-small c)

pub overflow_add-result-2 : goal.overflow_add-result-2
overflow_add-result-2 c = omega (arith, sum_is c, sum-small c)

pub overflow_add-result-3 : goal.overflow_add-result-3
overflow_add-result-3 c = omega (arith, sum_is c, sum-small c)

pub returns : goal.returns
returns c = sum_is c
