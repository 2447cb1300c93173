-- `reckon::copying::copy_into` meets its contract: the library's copy leaves the list placed over the room.
-- Assumes nothing.
use mathlib.Core.Path.{ap₂}
use mathlib.Core.List.{List}
use Prim.Native.Nat.{ℕ}
use native.Mathlib.Omega.{arith}
use borrow.Rule.Slice.PartMut.{put_mid}
use Rattle.reckon.specs.Lists.{placed}
use Rattle.reckon.proofs.copying.copy_into.Goals as goal

pub returns : goal.returns
unfolding placed
returns c = ap₂ (λ (k : ℕ) (new : List ℕ). put_mid c.args.at k c.args.room.now new) (omega arith) c.copy_from_slice.ensures.after
