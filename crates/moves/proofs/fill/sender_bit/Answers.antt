-- `moves::fill::sender_bit` meets its contract: the bit stands in the mask's 64.
-- Assumes nothing.
use mathlib.Core.Path.{◌≡◌, sym}
use mathlib.Core.Bool.{Bool, true, false}
use Prim.Native.Nat.{ℕ, ◌*◌, ◌%◌, ◌^◌, ◌<◌}
use native.Mathlib.Nat.{zero-mul}
use native.Mathlib.Omega.{arith}
use lib.Dec.{lit<}
use lib.Pow.{shl_exact}
use Rattle.reckon.specs.Tests.{pick}
use Rattle.grid.specs.Masks.{bits, digit}
use Rattle.moves.proofs.fill.sender_bit.Goals as goal

bit-set : (sent : Bool) (column : ℕ) → sent ≡ true → column < bits → 1 * 2 ^ column % 2 ^ bits ≡ digit sent * 2 ^ column
unfolding digit pick
bit-set sent column e h = rw e (shl_exact 1 column bits (lit< tt) (omega arith))

bit-clear : (sent : Bool) (column : ℕ) → sent ≡ false → 0 ≡ digit sent * 2 ^ column
unfolding digit pick
bit-clear sent column e = rw e (sym (zero-mul (2 ^ column)))

pub returns-then-sent : goal.returns-then-sent
returns-then-sent c = bit-set _ _ c.if-sent.true c.requires

pub returns : goal.returns
returns c = bit-clear _ _ c.if-sent.false
