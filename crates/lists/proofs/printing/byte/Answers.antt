-- `lists::printing::byte` meets its contract: a byte's number is far below what 64 bits hold.
-- Assumes nothing.
use native.Mathlib.Omega.{arith}
use Rattle.lists.proofs.printing.byte.Goals as goal

pub overflow_cast-result : goal.overflow_cast-result
overflow_cast-result c = omega (arith, c.type_inv.list c.args.at)
