-- `stands::putting::as_number` meets its contract: 1 or 0.
-- Assumes nothing.
use mathlib.Core.Path.{sym}
use Prim.Native.Nat.{ℕ}
use Rattle.reckon.proofs.TestLaws.{pick_true, pick_false}
use Rattle.stands.proofs.putting.as_number.Goals as goal

pub returns-then-is : goal.returns-then-is
returns-then-is c = sym (pick_true {A = ℕ} 1 0 c.if-is.true)

pub returns : goal.returns
returns c = sym (pick_false {A = ℕ} 1 0 c.if-is.false)
