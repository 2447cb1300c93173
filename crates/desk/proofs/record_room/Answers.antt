-- `desk::record_room` has as many numbers as it says: by the law of `replicate`, since a check that walks the list would run out of stack.
-- Assumes nothing.
use mathlib.Core.Path.{sym}
use Prim.Native.Nat.{ℕ}
use lib.ListN.{length-replicate}
use Rattle.desk.proofs.record_room.Goals as goal

-- src/main.rt:93:1
pub returns : goal.returns
returns c = sym (length-replicate {A = ℕ} 1_572_864 0)
